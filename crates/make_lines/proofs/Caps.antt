-- A record made from capped numbers is the record made from the numbers: what is too long is refused as such, whatever its bytes.
-- Assumes nothing.
use Prim.Native.Nat.{ℕ, ◌+◌, ◌^◌, ◌≤◌}
use mathlib.Core.Path.{◌≡◌, refl, sym, ap, ap₂, subst, ◌∙◌}
use mathlib.Core.List.{List, [], ◌∷◌, ◌++◌}
use mathlib.Core.Bool.{Bool, true, false, ◌&&◌, false≢true}
use native.Mathlib.Nat.{pow-le-pow_right}
use native.Mathlib.Omega.{arith}
use borrow.Author.Tests.{ltb-true, ltb-false, le-ltb}
use lib.Dec.{eqb, ltb, lit<}
use lib.ListN.{length, get_or}
use lib.Seq.{get_or-drop}
use Rattle.std.specs.Prelude.{if◌then◌else◌, Ok, Err}
use Rattle.fields.specs.Numbers.{value}
use Rattle.rules.specs.Fields.{Message, message01, message04, message_of, message_by}
use Rattle.rules.specs.declared.Kind.{Kind}
use Rattle.operations.specs.Making.{Put, head, number, left, right, notification, message, record_from, too_long, on_sound, judged, make_of, lent_record, made_bytes, code_by}
use Rattle.operations.specs.Promises.{MakePromise}
use Rattle.make_lines.specs.Lines.{values_of, is_numeral, cap, capped}
use Rattle.make_lines.specs.Draft.{service_given, given_in, number_at, text_at}
use Rattle.make_lines.proofs.Numbers.{capped_low, capped_high, capped_four}
use Rattle.layout.specs.Findings.{Finding, fault, sound}
use Rattle.operations.specs.Making.{Making}
use Rattle.layout.specs.declared.Reason.TheVariants.{TooLong}

-- two values fit alike, and where they fit they are the same bytes
pub record Alike (p q : Put) : Type 0 where
  pub field : p.field ≡ q.field
  pub fits : p.fits ≡ q.fits
  pub bytes : p.fits ≡ true → p.bytes ≡ q.bytes

pub data AllAlike : List Put → List Put → Type 0 where
  none : AllAlike [] []
  also : {p q : Put} {ps qs : List Put} → Alike p q → AllAlike ps qs → AllAlike (p ∷ ps) (q ∷ qs)

pub same_put : {p q : Put} → p ≡ q → Alike p q
same_put {p} {q} e = record { field = ap (λ (x : Put). x.field) e; fits = ap (λ (x : Put). x.fits) e; bytes = λ _. ap (λ (x : Put). x.bytes) e }

-- a capped number
places : (w : ℕ) → w ≤ 17 → 10 ^ w ≤ cap
places w h = pow-le-pow_right (lit< tt) {j = 17} h

pub number_put : (k w a n : ℕ) → w ≤ 17 → a ≡ capped n → Alike (number k w a) (number k w n)
number_put k w a n l e = go (ltb n cap) refl
  where
    go : (t : Bool) → ltb n cap ≡ t → Alike (number k w a) (number k w n)
    go true h = same_put (ap (number k w) (e ∙ capped_low n (ltb-true n cap h)))
    go false h =
        let m = ltb-false n cap h in
        let p = places w l in
        let b : ltb a (10 ^ w) ≡ false = ap (λ (x : ℕ). ltb x (10 ^ w)) (e ∙ capped_high n m) ∙ le-ltb cap (10 ^ w) p in
        let f : ltb n (10 ^ w) ≡ false = le-ltb n (10 ^ w) (omega arith) in
        record { field = refl; fits = b ∙ sym f; bytes = λ q. absurd (false≢true (sym b ∙ q)) }

-- ---- all of them
long_alike : {ps qs : List Put} → AllAlike ps qs → too_long ps ≡ too_long qs
unfolding too_long
long_alike none = refl
long_alike (also {p} {q} {ps} {qs} a r) =
    ap₂ (λ (b : Bool) (k : ℕ). if b then too_long ps else Err (fault TooLong k)) a.fits a.field ∙ ap (λ (x : Finding). if q.fits then x else Err (fault TooLong q.field)) (long_alike r)

-- the first fits, and so do the others
first_fits : (b : Bool) (k : ℕ) (x : Finding) → (if b then x else Err (fault TooLong k)) ≡ sound → (b ≡ true) × (x ≡ sound)
first_fits true k x h = (refl, h)
first_fits false k x h = (cc, cc)

record_alike : {ps qs : List Put} → AllAlike ps qs → too_long ps ≡ sound → record_from ps ≡ record_from qs
unfolding too_long record_from
record_alike none h = refl
record_alike (also {p} {q} {ps} {qs} a r) h =
    let f = first_fits p.fits p.field (too_long ps) h in
    ap₂ ◌++◌ (a.bytes f.0) (record_alike r f.1)

module _ (k : Kind) {ps qs : List Put} (a : AllAlike ps qs) where
  made_alike : (room : ℕ) → make_of k ps room ≡ make_of k qs room
  unfolding make_of
  made_alike room = go (too_long ps) refl
    where
      go : (f : Finding) → too_long ps ≡ f → on_sound (too_long ps) (judged k (record_from ps) room) ≡ on_sound (too_long qs) (judged k (record_from qs) room)
      go (Ok u) e = ap₂ (λ (x : Finding) (r : List ℕ). on_sound x (judged k r room)) (long_alike a) (record_alike a e)
      go (Err x) e =
          ap (λ (x : Finding). on_sound x (judged k (record_from ps) room)) e
          ∙ sym (ap (λ (x : Finding). on_sound x (judged k (record_from qs) room)) (sym (long_alike a) ∙ e))

  left_alike : (out : List ℕ) → made_bytes k ps out ≡ made_bytes k qs out
  unfolding make_of lent_record made_bytes
  left_alike out = go (too_long ps) refl
    where
      go : (f : Finding) → too_long ps ≡ f → lent_record (on_sound (too_long ps) (judged k (record_from ps) (length out))) (record_from ps) out
          ≡ lent_record (on_sound (too_long qs) (judged k (record_from qs) (length out))) (record_from qs) out
      go (Ok u) e = ap₂ (λ (x : Finding) (r : List ℕ). lent_record (on_sound x (judged k r (length out))) r out) (long_alike a) (record_alike a e)
      go (Err x) e =
          ap (λ (x : Finding). lent_record (on_sound x (judged k (record_from ps) (length out))) (record_from ps) out) e
          ∙ sym (ap (λ (x : Finding). lent_record (on_sound x (judged k (record_from qs) (length out))) (record_from qs) out) (sym (long_alike a) ∙ e))

pub same_promise : (k : Kind) {ps qs : List Put} {out after : List ℕ} {x : Making} → MakePromise k ps out x after → AllAlike ps qs → MakePromise k qs out x after
same_promise k {ps} {qs} {out} m a = record { answers = m.answers ∙ made_alike k a (length out); leaves = m.leaves ∙ left_alike k a out }

-- ---- the value in place i behind the record type
module _ (s : List ℕ) (i : ℕ) where
  pub given_number : (k w a : ℕ) → w ≤ 17 → a ≡ capped (value (get_or (values_of s) (1 + i) [])) → Alike (number k w a) (number k w (number_at i (given_in s)))
  given_number k w a l e = number_put k w a (number_at i (given_in s)) l (e ∙ ap (λ (x : List ℕ). capped (value x)) (sym (get_or-drop 1 (values_of s) i [])))

  pub given_left : (k w : ℕ) (t : List ℕ) → t ≡ get_or (values_of s) (1 + i) [] → Alike (left k w t) (left k w (text_at i (given_in s)))
  given_left k w t e = same_put (ap (left k w) (e ∙ sym (get_or-drop 1 (values_of s) i [])))

  pub given_right : (k w : ℕ) (t : List ℕ) → t ≡ get_or (values_of s) (1 + i) [] → Alike (right k w t) (right k w (text_at i (given_in s)))
  given_right k w t e = same_put (ap (right k w) (e ∙ sym (get_or-drop 1 (values_of s) i [])))

-- fields 1 to 5 of a transaction's record, and what stands behind them
module _ (s : List ℕ) (k : Kind) {service code n : ℕ} (es : service ≡ capped (value (get_or (values_of s) 1 []))) (ec : code ≡ capped (value (get_or (values_of s) 2 []))) (en : n ≡ capped (value (get_or (values_of s) 3 []))) where
  pub given_opening : {ps qs : List Put} → AllAlike ps qs
      → AllAlike (head k service code ++ (number 5 7 n ∷ ps)) (head k (number_at 0 (given_in s)) (number_at 1 (given_in s)) ++ (number 5 7 (number_at 2 (given_in s)) ∷ qs))
  given_opening a =
      also (same_put refl)
      (also (given_number s 0 2 2 service (omega arith) es)
      (also (given_number s 1 3 2 code (omega arith) ec)
      (also (same_put refl)
      (also (given_number s 2 5 7 n (omega arith) en) a))))

-- ---- the service that a line gives
module _ (s : List ℕ) (a : ℕ) (e : a ≡ capped (value (get_or (values_of s) 1 []))) where
  four : eqb a 4 ≡ eqb (number_at 0 (given_in s)) 4
  four = ap (λ (x : ℕ). eqb x 4) (e ∙ ap (λ (x : List ℕ). capped (value x)) (sym (get_or-drop 1 (values_of s) 0 []))) ∙ capped_four (number_at 0 (given_in s))

  pub service_told : (b : Bool) → eqb a 4 && is_numeral (get_or (values_of s) 1 []) ≡ b → (if b then 4 else 1) ≡ service_given (given_in s)
  unfolding service_given
  service_told b h = ap (λ (x : Bool). if x then 4 else 1) (sym h ∙ ap₂ ◌&&◌ four (ap is_numeral (sym (get_or-drop 1 (values_of s) 0 []))))

  -- a message, from its notification code on, with the fields of that service
  pub given_message : (l c : ℕ) (w : List ℕ) → l ≡ capped (value (get_or (values_of s) 4 [])) → c ≡ capped (value (get_or (values_of s) 5 [])) → w ≡ get_or (values_of s) 6 []
      → let vs = given_in s in
      AllAlike (notification a ++ message (message_of a) l c w) (notification (number_at 0 vs) ++ message (message_of (number_at 0 vs)) (number_at 3 vs) (number_at 4 vs) (text_at 5 vs))
  unfolding notification message_of
  given_message l c w el ec ew = subst (λ (b : Bool). AllAlike (tail b l c w) (tail (eqb (number_at 0 vs) 4) l' c' w')) (sym four) (go (eqb (number_at 0 vs) 4))
    where
      vs : List (List ℕ)
      vs = given_in s

      l' : ℕ
      l' = number_at 3 vs

      c' : ℕ
      c' = number_at 4 vs

      w' : List ℕ
      w' = text_at 5 vs

      tail : Bool → ℕ → ℕ → List ℕ → List Put
      tail b x y z = code_by b ++ message (message_by b) x y z

      from_line : (m : Message) → AllAlike (message m l c w) (message m l' c' w')
      from_line m =
          also (given_number s 3 m.line.number 3 l (omega arith) el)
          (also (given_number s 4 m.column.number 1 c (omega arith) ec)
          (also (given_left s 5 m.text.number 40 w ew)
          (also (same_put refl) none)))

      go : (b : Bool) → AllAlike (tail b l c w) (tail b l' c' w')
      go true = from_line message04
      go false = also (same_put refl) (from_line message01)
