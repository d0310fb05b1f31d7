-- The code, the service, its code.
-- Assumes nothing.
use mathlib.Core.Path.{ap, ◌∙◌}
use Rattle.services.specs.Services.{code_for, service_for}
use Rattle.close_write.proofs.service_in.Goals as goal

pub returns : goal.returns
returns c = c.code_for.ensures ∙ ap code_for (c.service_for.ensures ∙ ap service_for c.code_at.ensures)
