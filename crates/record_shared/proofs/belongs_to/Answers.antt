-- The four bytes as a number are those of NY and the service's code.
-- Assumes nothing.
use mathlib.Core.Path.{◌≡◌, refl, ap, sym, ◌∙◌}
use borrow.Author.Tests.{eqb-true}
use Rattle.services.specs.declared.Service.TheVariants.{Autogiro, Remittance}
use Rattle.fields.specs.Words.{bytes_of}
use Rattle.record_shared.specs.Heads.{head_of}
use Rattle.record_shared.proofs.Belong.{belonging_by}
use Rattle.record_shared.proofs.belongs_to.Goals as goal

charges : bytes_of 4 0x3130594E ≡ head_of Autogiro
unfolding bytes_of
charges = refl

payments : bytes_of 4 0x3430594E ≡ head_of Remittance
unfolding bytes_of
payments = refl

pub returns-in-Autogiro : goal.returns-in-Autogiro
returns-in-Autogiro c = λ e. belonging_by _ _ (sym c.four_at-four.ensures ∙ ap (bytes_of 4) (eqb-true _ _ e) ∙ charges ∙ ap head_of (sym c.in-Autogiro.is))

pub returns-in-Remittance : goal.returns-in-Remittance
returns-in-Remittance c = λ e. belonging_by _ _ (sym c.four_at-four.ensures ∙ ap (bytes_of 4) (eqb-true _ _ e) ∙ payments ∙ ap head_of (sym c.in-Remittance.is))
