-- One number stands for two fields, and tells both: agreement and assignment number of a record 20, line and column of a record 49.
-- Assumes nothing.
use Rattle.std.proofs.Common.{Some}
use Prim.Native.Nat.{ℕ, ◌+◌, ◌*◌, ◌-◌, ◌≤◌, ◌<◌}
use mathlib.Core.Path.{◌≡◌, ap, ◌∙◌}
use mathlib.Core.Logic.{◌↔◌}
use mathlib.Core.List.{List}
use mathlib.Core.Bool.{Bool, true, false}
use native.Mathlib.Omega.{arith}
use borrow.Author.Tests.{leb-true, ltb-true}
use lib.Dec.{ltb, eqb}
use lib.ListN.{length}
use Rattle.fields.specs.Bytes.{every, is_digit, Inside}
use Rattle.fields.proofs.Tests.{and_left, and_right}
use Rattle.fields.proofs.Values.{number_yes}
use Rattle.fields.proofs.Width.{value_below, digit_field, part_length}
use Rattle.figures.specs.declared.totals.Totals.{Totals}
use Rattle.layout.specs.Rows.{AllHold}
use Rattle.rules.specs.Codes.{key_in, service_code}
use Rattle.rules.specs.Fields.{Field, bytes_in, number_in, agreement_field, assignment_field, message_of, message_by}
use Rattle.rules.specs.Layouts.{record20, record49, notification49, message49}
use Rattle.rules.specs.Messages.{place_at, has_place}
use Rattle.rules.specs.Payments.{is_line, is_column}
use Rattle.rules.specs.declared.Assignment.{Assignment}
use Rattle.laws.specs.Tells.{Keyed, Placed, Agree}
use Rattle.laws.proofs.Sound.{hold_behind}

-- ---- a field of digits
-- equal numbers are equal bytes
agree : (x : Field) (r s : List ℕ) → Inside x.from x.to r → Inside x.from x.to s → every is_digit (bytes_in x r) ≡ true → every is_digit (bytes_in x s) ≡ true
    → number_in x r ≡ number_in x s → Agree x r s
agree x r s i j p q e =
    record {
      bytes =
          (digit_field (x.to + 1 - x.from)).one_form (bytes_in x r) (bytes_in x s) (number_in x s) (part_length x.from x.to r i) (part_length x.from x.to s j)
          (number_yes (bytes_in x r) p ∙ ap Some e) (number_yes (bytes_in x s) q);
      numbers = e;
    }

-- ---- agreement and assignment number
assignment_below : (r : List ℕ) → Keyed r → number_in assignment_field r < 10_000_000
assignment_below r k =
    let i : Inside 18 24 r = (omega arith, omega arith, omega (arith, k.sized)) in
    rw (part_length 18 24 r i) at (value_below (bytes_in assignment_field r) k.assignment)

apart : (a b c d : ℕ) → b < 10_000_000 → d < 10_000_000 → a * 10_000_000 + b ≡ c * 10_000_000 + d → (a ≡ c) × (b ≡ d)
apart a b c d p q e = (omega arith, omega arith)

-- two records have one key exactly when they agree in both
pub key_tells_both : (r s : List ℕ) → Keyed r → Keyed s → (key_in r ≡ key_in s) ↔ (Agree agreement_field r s × Agree assignment_field r s)
key_tells_both r s k l = (there, λ v. λ i. v.0.numbers i * 10_000_000 + v.1.numbers i)
  where
    there : key_in r ≡ key_in s → Agree agreement_field r s × Agree assignment_field r s
    there e =
        let v = apart _ _ _ _ (assignment_below r k) (assignment_below s l) e in (
          agree agreement_field r s (omega arith, omega arith, omega (arith, k.sized)) (omega arith, omega arith, omega (arith, l.sized)) k.agreement l.agreement v.0,
          agree assignment_field r s (omega arith, omega arith, omega (arith, k.sized)) (omega arith, omega arith, omega (arith, l.sized)) k.assignment l.assignment v.1,
        )

-- ---- line and column, where the service has them
module _ (service : ℕ) (r : List ℕ) (p : Placed service r) where
  line_digits : every is_digit (bytes_in (message_of service).line r) ≡ true
  unfolding is_line
  line_digits = and_left _ _ p.line

  column_is : (every is_digit (bytes_in (message_of service).column r) ≡ true) × (1 ≤ number_in (message_of service).column r) × (number_in (message_of service).column r ≤ 2)
  unfolding is_column
  column_is =
      let line = ltb 0 (number_in (message_of service).line r) in
      let column = number_in (message_of service).column r in
      (and_left _ _ p.column, ltb-true 0 column (and_right line (ltb 0 column) p.placed), leb-true column 2 (and_right (every is_digit (bytes_in (message_of service).column r)) _ p.column))

  -- both stand inside the record
  inside : Inside (message_of service).line.from (message_of service).line.to r × Inside (message_of service).column.from (message_of service).column.to r
  unfolding message_of
  inside = go (eqb service 4)
    where
      go : (b : Bool) → let m = message_by b in Inside m.line.from m.line.to r × Inside m.column.from m.column.to r
      go true = ((omega arith, omega arith, omega (arith, p.sized)), (omega arith, omega arith, omega (arith, p.sized)))
      go false = ((omega arith, omega arith, omega (arith, p.sized)), (omega arith, omega arith, omega (arith, p.sized)))

halves : (a b c d : ℕ) → 1 ≤ b → b ≤ 2 → 1 ≤ d → d ≤ 2 → a * 2 + b ≡ c * 2 + d → (a ≡ c) × (b ≡ d)
halves a b c d p q s t e = (omega arith, omega arith)

-- two records of a service take one place exactly when they agree in both
pub place_tells_both : (service : ℕ) (r s : List ℕ) → Placed service r → Placed service s
    → (place_at (message_of service) r ≡ place_at (message_of service) s) ↔ (Agree (message_of service).line r s × Agree (message_of service).column r s)
place_tells_both service r s p q = (there, λ v. λ i. v.0.numbers i * 2 + v.1.numbers i)
  where
    there : place_at (message_of service) r ≡ place_at (message_of service) s → Agree (message_of service).line r s × Agree (message_of service).column r s
    there e =
        let x = column_is service r p in
        let y = column_is service s q in
        let v = halves _ _ _ _ x.1 x.2 y.1 y.2 e in (
          agree (message_of service).line r s (inside service r p).0 (inside service s q).0 (line_digits service r p) (line_digits service s q) v.0,
          agree (message_of service).column r s (inside service r p).1 (inside service s q).1 x.0 y.0 v.1,
        )

-- ---- the records that are asked for them
module _ (f : Totals) (ks r : List ℕ) (a : Assignment) (z : length r ≡ 81) where
  -- a record 20 that meets its rules has both in Digits
  pub keyed_20 : AllHold f ks r (record20 a r) → Keyed r
  unfolding AllHold
  keyed_20 h = record { sized = z; agreement = h.1.1.1.1.1.0; assignment = h.1.1.1.1.1.1.0 }

  -- a record 49 that meets its rules and has a place has a sound one, in either service
  pub placed_49 : AllHold f ks r (record49 a r) → has_place r ≡ true → Placed (service_code r) r
  unfolding AllHold
  placed_49 h e =
      let m = hold_behind f ks r (notification49 (service_code r)) (message49 (message_of (service_code r)) a.places r) h.1.1.1.1.1 in
      record { sized = z; placed = e; line = m.0; column = m.1.0 }
