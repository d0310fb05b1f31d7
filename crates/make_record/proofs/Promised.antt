-- What making promises, from its steps: a value too long, a rule of the record that is broken, too little room, or the record.
-- Assumes nothing.
use Rattle.std.proofs.Common.{arith, Ok, Err}
use Prim.Native.Nat.{ℕ}
use mathlib.Core.Path.{◌≡◌, refl, sym, ap, subst, ◌∙◌}
use mathlib.Core.List.{List, [], ◌++◌}
use mathlib.Core.Bool.{Bool, true, false}
use lib.Dec.{leb}
use lib.ListN.{length, drop}
use Rattle.std.specs.Prelude.{if◌then◌else◌}
use Rattle.limits.specs.Limits.{record_bytes}
use Rattle.figures.specs.Totals.{none}
use Rattle.layout.specs.Findings.{Finding, sound}
use Rattle.layout.specs.Rows.{first_fault}
use Rattle.layout.specs.declared.Reason.TheVariants.{NoRoom}
use Rattle.rules.specs.Alone.{own_table}
use Rattle.rules.specs.declared.Kind.{Kind}
use Rattle.rules.specs.declared.Refusal.{Refusal}
use Rattle.operations.specs.Making.{Making, Put, record_from, too_long, not_made, on_sound, judged, make_of, lent_record, made_bytes, recorded}
use Rattle.operations.specs.Promises.{MakePromise}

-- a making that goes on, and one that ends
pub goes_on : (f : Finding) (u : Unit {0}) → on_sound f recorded ≡ Ok u → f ≡ sound
goes_on (Ok u) v h = refl
goes_on (Err e) v h = let z : ◌≡◌ {A = ℕ} 0 1 = cc in absurd (omega arith)

pub ends : (f : Finding) (x : Refusal) (next : Making) → on_sound f recorded ≡ Err x → on_sound f next ≡ Err x
ends (Ok u) x next h = let z : ◌≡◌ {A = ℕ} 0 1 = cc in absurd (omega arith)
ends (Err e) x next h = h

module _ (k : Kind) (ps : List Put) (out : List ℕ) where
  -- the answer settles the buffer
  promised : {after : List ℕ} {x : Making} → x ≡ make_of k ps (length out) → after ≡ lent_record x (record_from ps) out → MakePromise k ps out x after
  unfolding made_bytes
  promised e h = record { answers = e; leaves = h ∙ ap (λ (m : Making). lent_record m (record_from ps) out) e }

  refused : {x : Refusal} → Err x ≡ make_of k ps (length out) → MakePromise k ps out (Err x) out
  unfolding lent_record
  refused e = promised e refl

  -- a value too long
  pub long_promised : {x : Refusal} {y : Making} → on_sound (too_long ps) recorded ≡ Err x → y ≡ Err x → MakePromise k ps out y out
  unfolding make_of
  long_promised {x} h g = subst (λ (m : Making). MakePromise k ps out m out) (sym g) (refused (sym (ends (too_long ps) x _ h)))

  module _ (fit : too_long ps ≡ sound) {r : List ℕ} (put : r ≡ record_from ps) {own : Finding} (rules : own ≡ first_fault none [] r (own_table k r)) where
    told : make_of k ps (length out) ≡ on_sound own (if leb record_bytes (length out) then recorded else not_made NoRoom 0)
    unfolding make_of judged
    told =
        ap (λ (f : Finding). on_sound f (judged k (record_from ps) (length out))) fit
        ∙ sym (ap (λ (f : Finding). on_sound f (if leb record_bytes (length out) then recorded else not_made NoRoom 0)) (rules ∙ ap (λ (b : List ℕ). first_fault none [] b (own_table k b)) put))

    -- a rule of its own is broken
    pub broken_promised : {x : Refusal} {y : Making} → on_sound own recorded ≡ Err x → y ≡ Err x → MakePromise k ps out y out
    broken_promised {x} h g = subst (λ (m : Making). MakePromise k ps out m out) (sym g) (refused (sym (told ∙ ends own x _ h)))

    module _ (holds : own ≡ sound) where
      by_room : (b : Bool) → leb record_bytes (length out) ≡ b → (if b then recorded else not_made NoRoom 0) ≡ make_of k ps (length out)
      by_room b e = sym (told ∙ ap (λ (f : Finding). on_sound f (if leb record_bytes (length out) then recorded else not_made NoRoom 0)) holds ∙ ap (λ (c : Bool). if c then recorded else not_made NoRoom 0) e)

      -- there is too little room
      pub short_promised : {y : Making} → leb record_bytes (length out) ≡ false → y ≡ not_made NoRoom 0 → MakePromise k ps out y out
      short_promised e g = subst (λ (m : Making). MakePromise k ps out m out) (sym g) (refused (by_room false e))

      -- the record lies over the start
      pub made_promised : {after : List ℕ} → leb record_bytes (length out) ≡ true → after ≡ r ++ drop record_bytes out → MakePromise k ps out recorded after
      unfolding lent_record
      made_promised e g = promised (by_room true e) (g ∙ ap (λ (b : List ℕ). b ++ drop record_bytes out) put)
