-- Values one by one: the first that is too long, and what they put into a record.
-- Assumes nothing.
use Prim.Native.Nat.{ℕ, ◌+◌, ◌-◌, ◌≤◌}
use mathlib.Core.Path.{◌≡◌, refl, sym, ap, subst, ◌∙◌}
use mathlib.Core.List.{List, [], ◌∷◌, ◌++◌, append-nil, append_assoc}
use mathlib.Core.Bool.{Bool, true, false}
use native.Mathlib.Omega.{arith}
use lib.Dec.{ltb, eqb}
use lib.ListN.{length, take, drop, length-append, take-append-drop, drop_of_length-le}
use lib.Seq.{length-take-le, take_at}
use Rattle.std.specs.Prelude.{if◌then◌else◌, Err}
use Rattle.fields.specs.Bytes.{text}
use Rattle.fields.specs.Numbers.{written}
use Rattle.fields.proofs.Values.{written_length}
use Rattle.field_texts.specs.Texts.{to_left, to_right}
use Rattle.layout.specs.declared.Reason.TheVariants.{TooLong}
use Rattle.layout.specs.Findings.{or_else, sound}
use Rattle.layout.proofs.Laws.{fault_not_sound}
use Rattle.rules.specs.Fields.{message_of, message_by}
use Rattle.operations.specs.Making.{Put, number, left, made10, made20, made30, made31, made40, made41, notification, message, made49, made50, record_from, too_long, code_by}
use Rattle.write_fields.specs.Parts.{head_bytes}
use Rattle.write_fields.proofs.Places.{Upto, begun, head_length}
use Rattle.make_values.specs.Fitting.{EachFits}
use Rattle.make_values.specs.Opening.{opening_long, opening_bytes, message_bytes}
use Rattle.layout.specs.Findings.{Finding, fault}

-- ---- 22
-- values of which none is too long fit, each of them
pub each_fits : (ps : List Put) → too_long ps ≡ sound → EachFits ps
unfolding too_long
each_fits [] h = tt
each_fits (p ∷ ps) h = go p.fits refl h (each_fits ps)
  where
    go : (b : Bool) → p.fits ≡ b → (if b then too_long ps else Err (fault TooLong p.field)) ≡ sound → (too_long ps ≡ sound → EachFits ps) → EachFits (p ∷ ps)
    go true e h more = (e, more h)
    go false e h more = absurd (fault_not_sound TooLong p.field h)

-- column and text of a message follow its line, in whatever field the service has it
pub long_49 : (k s t n l c : ℕ) (w : List ℕ) → k ≡ (message_of s).line.number
    → too_long (made49 s t n l c w) ≡ or_else (opening_long s t n) (too_long (number k 3 l ∷ number (k + 1) 1 c ∷ left (k + 2) 40 w ∷ []))
unfolding too_long message_of notification opening_long
long_49 k s t n l c w e = opening (ltb s 100) (ltb t 100) (ltb n 10_000_000) (go (eqb s 4) e)
  where
    given : ℕ → Finding
    given x = too_long (number x 3 l ∷ number (x + 1) 1 c ∷ left (x + 2) 40 w ∷ [])

    go : (b : Bool) → k ≡ (message_by b).line.number
        → too_long (code_by b ++ message (message_by b) l c w) ≡ given k
    go true h = ap given (sym h)
    go false h = ap given (sym h)

    opening : (x y z : Bool) {f g : Finding} → f ≡ g
        → (if x then (if y then (if z then f else Err (fault TooLong 5)) else Err (fault TooLong 3)) else Err (fault TooLong 2))
        ≡ or_else (if x then (if y then (if z then sound else Err (fault TooLong 5)) else Err (fault TooLong 3)) else Err (fault TooLong 2)) g
    opening true true true h = h
    opening true true false h = refl
    opening true false z h = refl
    opening false y z h = refl

-- ---- what is put
-- all of it is put
pub all_put : {n : ℕ} {a d out : List ℕ} (w : List ℕ) → length d ≡ n → a ≡ w → Upto n a d out → out ≡ w
all_put {n} {a} {d} w l e h = h.is ∙ ap (λ (x : List ℕ). a ++ x) (drop_of_length-le d {i = n} (omega arith)) ∙ append-nil a ∙ e

-- what stands after the first at bytes is put behind them, up to the end
pub rest_put : {at : ℕ} {a d out after : List ℕ} (w rest : List ℕ) → a ++ rest ≡ w → Upto at a d out → after ≡ take at out ++ rest → after ≡ w
rest_put {at} {a} {d} {out} w rest e h q = q ∙ ap (λ (x : List ℕ). x ++ rest) (ap (take at) h.is ∙ take_at a (drop at d) at h.here) ∙ e

-- nothing is put yet behind the first at bytes; the same place by another sum
pub from_there : (at : ℕ) (d : List ℕ) → at ≤ length d → Upto at (take at d) d d
from_there at d h = record { is = sym (take-append-drop at d); here = length-take-le at d h }

pub same_place : {at : ℕ} (n : ℕ) {a d out : List ℕ} → at ≡ n → Upto at a d out → Upto n a d out
same_place n {a} {d} {out} e h = subst (λ (x : ℕ). Upto x a d out) e h

pub is_message : (n l c : ℕ) (a w : List ℕ) → ((((a ++ written 3 l) ++ written 1 c) ++ to_left 40 w) ++ written (36 - n) 0) ++ (10 ∷ []) ≡ a ++ message_bytes n l c w
unfolding message_bytes
is_message n l c a w = simp append_assoc

opening_length : (service type kind n : ℕ) → length (opening_bytes service type kind n) ≡ 15
unfolding opening_bytes
opening_length service type kind n = length-append (head_bytes service type kind) (written 7 n) ∙ omega (arith, head_length service type kind, written_length 7 n)

-- a record that starts with its fields 1 to 5
pub opened : (service type kind n : ℕ) (d : List ℕ) {out : List ℕ} → out ≡ opening_bytes service type kind n ++ drop 15 d → Upto 15 (opening_bytes service type kind n) d out
opened service type kind n d q = begun (opening_bytes service type kind n) d (opening_length service type kind n) q

-- field 7 of a 10
receiver : written 8 8080 ≡ text "00008080"
unfolding written
receiver = refl

-- the records, as they are put together
pub is_10 : (sender n : ℕ) → ((((head_bytes 0 0 10 ++ written 8 sender) ++ written 7 n) ++ written 8 8080) ++ written 49 0) ++ (10 ∷ []) ≡ record_from (made10 sender n)
unfolding head_bytes record_from
is_10 sender n = ap (λ (x : List ℕ). ((((head_bytes 0 0 10 ++ written 8 sender) ++ written 7 n) ++ x) ++ written 49 0) ++ (10 ∷ [])) receiver ∙ simp append_assoc

pub is_20 : (s a n x : ℕ) → ((((head_bytes s 0 20 ++ written 9 a) ++ written 7 n) ++ written 11 x) ++ written 45 0) ++ (10 ∷ []) ≡ record_from (made20 s a n x)
unfolding head_bytes record_from
is_20 s a n x = simp append_assoc

module _ (s t n : ℕ) where
  pub is_30 : (d : ℕ) (p : List ℕ) (a : ℕ) (k : List ℕ)
      → (((((opening_bytes s t 30 n ++ written 6 d) ++ to_right 11 p) ++ written 17 a) ++ to_right 25 k) ++ written 6 0) ++ (10 ∷ []) ≡ record_from (made30 s t n d p a k)
  unfolding opening_bytes head_bytes record_from
  is_30 d p a k = simp append_assoc

  pub is_31 : (a b c : List ℕ) → ((((opening_bytes s t 31 n ++ to_left 10 a) ++ to_left 25 b) ++ to_left 25 c) ++ written 5 0) ++ (10 ∷ []) ≡ record_from (made31 s t n a b c)
  unfolding opening_bytes head_bytes record_from
  is_31 a b c = simp append_assoc

  pub is_40 : (a b c d : List ℕ) → (((((opening_bytes s t 40 n ++ to_left 30 a) ++ to_left 4 b) ++ to_left 3 c) ++ to_left 25 d) ++ written 3 0) ++ (10 ∷ []) ≡ record_from (made40 s t n a b c d)
  unfolding opening_bytes head_bytes record_from
  is_40 a b c d = simp append_assoc

  pub is_41 : (a b c : List ℕ) → ((((opening_bytes s t 41 n ++ to_left 30 a) ++ to_left 30 b) ++ to_left 3 c) ++ written 2 0) ++ (10 ∷ []) ≡ record_from (made41 s t n a b c)
  unfolding opening_bytes head_bytes record_from
  is_41 a b c = simp append_assoc

  -- in service 04, and in the others
  pub is_49_04 : (l c : ℕ) (w : List ℕ) → eqb s 4 ≡ true → opening_bytes s t 49 n ++ message_bytes 15 l c w ≡ record_from (made49 s t n l c w)
  unfolding opening_bytes head_bytes message_bytes record_from message_of notification
  is_49_04 l c w e = simp (e, append_assoc)

  pub is_49_01 : (l c : ℕ) (w : List ℕ) → eqb s 4 ≡ false → (opening_bytes s t 49 n ++ (51 ∷ [])) ++ message_bytes 16 l c w ≡ record_from (made49 s t n l c w)
  unfolding opening_bytes head_bytes message_bytes record_from message_of notification
  is_49_01 l c w e = simp (e, append_assoc)

  pub is_50 : (k : List ℕ) (a : ℕ) → (((opening_bytes s t 50 n ++ to_right 25 k) ++ written 17 a) ++ written 23 0) ++ (10 ∷ []) ≡ record_from (made50 s t n k a)
  unfolding opening_bytes head_bytes record_from
  is_50 k a = simp append_assoc
