use Rattle.std.proofs.Common.{Err, ℕ}
use mathlib.Core.Path.{refl, sym, ap, ◌∙◌}
use mathlib.Core.List.{List, []}
use native.Mathlib.Omega.{arith}
use Rattle.rules.specs.Growth.{all_keys, start}
use Rattle.rules.specs.Run.{run}
use Rattle.run_figures.specs.Slots.{all_slots}
use Rattle.run_figures.specs.Blocks.{blocks}
use Rattle.run_loop.proofs.Loop.{at_next, at_last, keys_last, figures_all, ready, stopped, accepted, not_accepted}
use Rattle.run_loop.proofs.run_over.Goals as goal

pub take_record-requires : goal.take_record-requires
take_record-requires c =
    let a = c.args in
    ready a.mode a.w c.records_of-records.result.now c.loop-k.st c.loop-k.keys c.loop-k.figures c.loop-k.k c.loop-k.invariant.0 c.loop-k-test.true _ refl

pub returns-in-Err : goal.returns-in-Err
returns-in-Err c =
    let a = c.args in
    let refusal = ap Err c.at.ensures in
    let step = sym c.in-Err.is ∙ c.take_record.ensures.step in
    record {
      verdict =
          refusal ∙ sym (stopped a.mode a.w c.records_of-records.result.now c.loop-k.st c.loop-k.keys c.loop-k.figures c.loop-k.k c.loop-k.invariant.0 c.loop-k-test.true _ refl c.in-Err.fault step)
          ∙ ap (run a.mode a.w 0 start []) c.records_of-records.ensures.are;
      leaves = record { found = λ x e. absurd (not_accepted _ _ _ _ x refusal e); figured = λ x e. absurd (not_accepted _ _ _ _ x refusal e) };
    }

pub loop-k-preserved : goal.loop-k-preserved
loop-k-preserved c =
    let a = c.args in
    let size = c.take_record.auto.figures in (
      at_next a.mode a.w c.records_of-records.result.now c.loop-k.st c.loop-k.keys c.loop-k.figures c.loop-k.k c.loop-k.invariant.0 c.loop-k-test.true _ refl _ _ _ _ c.take_record.ensures c.in-Ok.is c.take_record.auto.keys size,
      size ∙ c.loop-k.invariant.1,
    )

pub returns : goal.returns
returns c =
    let a = c.args in
    let rs = c.records_of-records.result.now in
    let are = c.records_of-records.ensures.are in
    let at = c.loop-k.invariant.0 in
    let last = at_last a.mode a.w rs c.loop-k.st c.loop-k.keys c.loop-k.figures c.loop-k.k at (omega arith) in
    record {
      verdict = c.finish.ensures ∙ sym last ∙ ap (run a.mode a.w 0 start []) are;
      leaves = record {
        found = λ t e.
            keys_last a.mode a.w rs c.loop-k.st c.loop-k.keys c.loop-k.figures c.loop-k.k at (omega arith) t (accepted a.mode _ c.loop-k.st t (sym c.finish.ensures ∙ e))
            ∙ ap all_keys are;
        figured = λ t e l.
            figures_all a.mode a.w rs c.loop-k.st c.loop-k.keys c.loop-k.figures c.loop-k.k at (omega arith) t (accepted a.mode _ c.loop-k.st t (sym c.finish.ensures ∙ e)) _ c.keep_figures.ensures c.keep_figures.auto.figures l
            ∙ ap (λ (x : List (List ℕ)). all_slots (blocks start.assignment x)) are;
      };
    }
