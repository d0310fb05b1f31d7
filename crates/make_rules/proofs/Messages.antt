-- A message by itself: no place is taken and there is room, so that its own rows are the whole of its table.
-- Assumes nothing.
use Prim.Native.Nat.{ℕ}
use mathlib.Core.Path.{◌≡◌, sym, ap, ◌∙◌}
use mathlib.Core.List.{List, [], ◌∷◌, ◌++◌}
use mathlib.Core.Bool.{Bool, true, false}
use lib.Dec.{eqb}
use Rattle.figures.specs.declared.totals.Totals.{Totals}
use Rattle.layout.specs.Findings.{or_else}
use Rattle.layout.specs.Rules.{textual, zeros}
use Rattle.layout.specs.Rows.{Row, first_fault}
use Rattle.layout.proofs.Laws.{pieces}
use Rattle.rules.specs.Alone.{own_rows}
use Rattle.rules.specs.Codes.{service_code}
use Rattle.rules.specs.Fields.{Message, on, message01, message04, message_of, message_by}
use Rattle.rules.specs.Layouts.{notification49, free49, message49, fields49, notification_by, a_notification}
use Rattle.rules.specs.Messages.{no_places}
use Rattle.rules.specs.Payments.{line, column}
use Rattle.rules.proofs.Free.{first_sound}
use Rattle.layout.specs.Findings.{Finding}

module _ (f : Totals) (ks : List ℕ) (r : List ℕ) where
  -- behind any rows, what line and column find of the message may be left out
  free : (us : List Row) (line column : ℕ) (vs : List Row) → first_fault f ks r (us ++ (free49 no_places line column ++ vs)) ≡ first_fault f ks r (us ++ vs)
  free us line column vs =
      let found = free49 no_places line column in
      pieces f ks r us (found ++ vs)
      ∙ ap (or_else (first_fault f ks r us)) (pieces f ks r found vs ∙ ap (λ (x : Finding). or_else x (first_fault f ks r vs)) (first_sound line column f ks r))
      ∙ sym (pieces f ks r us vs)

  -- the rows before it and behind it
  abbrev before : Message → List Row
  before m = on m.line line ∷ on m.column column ∷ []

  abbrev behind : Message → List Row
  behind m = on m.text textual ∷ on m.filler zeros ∷ []

  -- the rows behind field 5, by whether the service is 04
  abbrev fields_by : Bool → List Row
  fields_by b = notification_by b ++ message49 (message_by b) no_places r

  by_service : (b : Bool) → first_fault f ks r (fields_by b) ≡ first_fault f ks r (own_rows r (fields_by b))
  unfolding own_rows
  by_service true = free (before message04) _ _ (behind message04)
  by_service false = free (a_notification ∷ before message01) _ _ (behind message01)

  pub message_alone : first_fault f ks r (fields49 no_places r) ≡ first_fault f ks r (own_rows r (fields49 no_places r))
  unfolding notification49 message_of
  message_alone = by_service (eqb (service_code r) 4)
