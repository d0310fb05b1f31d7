-- Record 30 in its stages: past those that are sound, the rest is left.
-- Assumes nothing.
use Prim.Native.Nat.{ℕ}
use mathlib.Core.Path.{◌≡◌, ◌∙◌}
use mathlib.Core.List.{List, ◌++◌}
use borrow.Author.Tests.{eqb-true}
use Rattle.dates.specs.declared.Window.{Window}
use Rattle.figures.specs.declared.totals.Totals.{Totals}
use Rattle.layout.specs.Findings.{Finding, sound}
use Rattle.layout.specs.Rows.{Row, first_fault, AllHold}
use Rattle.layout.proofs.Laws.{all_of_sound}
use Rattle.services.specs.Services.{code_for}
use Rattle.rules.specs.Codes.{service_code}
use Rattle.rules.specs.Layouts.{head30, number30, date30, party30, amount30, tail30, record30}
use Rattle.rules.specs.declared.Assignment.{Assignment}
use Rattle.record_shared.proofs.Pieces.{past}

module _ (w : Window) (a : Assignment) (f : Totals) (ks r : List ℕ) where
  -- what a piece of the table is found to be
  abbrev pub found : List Row → Finding
  found ws = first_fault f ks r ws

  -- what stands behind each stage
  abbrev pub behind_amount : List Row
  behind_amount = tail30 r

  abbrev pub behind_party : List Row
  behind_party = amount30 a r ++ behind_amount

  abbrev pub behind_date : List Row
  behind_date = party30 r ++ behind_party

  abbrev pub behind_number : List Row
  behind_number = date30 w a r ++ behind_date

  abbrev pub behind_head : List Row
  behind_head = number30 a r ++ behind_number

  -- a record whose first fields are sound is of the assignment's service
  pub own_service : found (head30 a r) ≡ sound → service_code r ≡ code_for a.service
  unfolding AllHold
  own_service h = eqb-true (service_code r) (code_for a.service) (all_of_sound f ks r (head30 a r) h).1.1.0

  module _ (head : found (head30 a r) ≡ sound) where
    pub past_head : found (record30 w a r) ≡ found behind_head
    past_head = past f ks r (head30 a r) behind_head head

    module _ (number : found (number30 a r) ≡ sound) where
      pub past_number : found (record30 w a r) ≡ found behind_number
      past_number = past_head ∙ past f ks r (number30 a r) behind_number number

      module _ (date : found (date30 w a r) ≡ sound) where
        pub past_date : found (record30 w a r) ≡ found behind_date
        past_date = past_number ∙ past f ks r (date30 w a r) behind_date date

        module _ (party : found (party30 r) ≡ sound) where
          pub past_party : found (record30 w a r) ≡ found behind_party
          past_party = past_date ∙ past f ks r (party30 r) behind_party party

          pub past_amount : found (amount30 a r) ≡ sound → found (record30 w a r) ≡ found behind_amount
          past_amount amount = past_party ∙ past f ks r (amount30 a r) behind_amount amount
