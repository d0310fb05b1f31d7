-- Assumes nothing.
use mathlib.Core.Path.{sym, ◌∙◌}
use borrow.Author.Tests.{ne_eqb}
use Rattle.join_pairs.proofs.Shared.{brings_none, brings_key}
use Rattle.join_pairs.proofs.brings.Goals as goal

pub returns-then-code_at-eq20 : goal.returns-then-code_at-eq20
returns-then-code_at-eq20 c =
    let i = sym c.code_at.ensures ∙ c.if-code_at-eq20.true in
    brings_key _ c.args.r.now _ _ _ c.code_at.ensures c.if-code_at-eq20.true (c.key_of.ensures (c.requires.agreement i) (c.requires.number i)) c.seen.ensures

pub returns-else-code_at-eq20 : goal.returns-else-code_at-eq20
returns-else-code_at-eq20 c = ne_eqb c.code_at.result 20 c.if-code_at-eq20.false ∙ brings_none _ c.args.r.now _ c.code_at.ensures c.if-code_at-eq20.false
