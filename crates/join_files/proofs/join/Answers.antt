-- 19 is looked at last; then the first file without its 89, the second's assignments, and the new 89.
-- Assumes nothing.
use mathlib.Core.Path.{sym, ◌∙◌}
use native.Mathlib.Omega.{arith}
use Prim.Native.Nat.{◌-◌}
use lib.ListN.{length, length-take}
use Rattle.std.proofs.lemmas.Result.{err_from_is_err_and}
use Rattle.limits.specs.Limits.{record_bytes}
use Rattle.join_files.proofs.Answers.{not_weighed, no_room, first_long, second_long, has_room, wrote}
use Rattle.join_files.proofs.join.Goals as goal

pub overflow_sub-first_end : goal.overflow_sub-first_end
overflow_sub-first_end c =
    let a = c.args in
    omega (arith, first_long a.day a.first.now a.second.now a.out.now _ (sym c.in_ok-weigh.was ∙ c.weigh.ensures) _ (sym c.given.ensures ∙ c.in_ok-t.was))

pub overflow_sub-second_end : goal.overflow_sub-second_end
overflow_sub-second_end c =
    let a = c.args in
    omega (arith, second_long a.day a.first.now a.second.now a.out.now _ (sym c.in_ok-weigh.was ∙ c.weigh.ensures) _ (sym c.given.ensures ∙ c.in_ok-t.was))

pub slice_bounds-put_file-end : goal.slice_bounds-put_file-end
slice_bounds-put_file-end c =
    let a = c.args in
    sym (length-take (length a.first.now - record_bytes) a.first.now ∙ omega (arith, first_long a.day a.first.now a.second.now a.out.now _ (sym c.in_ok-weigh.was ∙ c.weigh.ensures) _ (sym c.given.ensures ∙ c.in_ok-t.was)))

pub slice_bounds-put_file-count : goal.slice_bounds-put_file-count
slice_bounds-put_file-count c =
    let a = c.args in
    omega (arith, second_long a.day a.first.now a.second.now a.out.now _ (sym c.in_ok-weigh.was ∙ c.weigh.ensures) _ (sym c.given.ensures ∙ c.in_ok-t.was))

pub slice_bounds-put_file-start : goal.slice_bounds-put_file-start
slice_bounds-put_file-start c =
    let a = c.args in
    omega (arith, second_long a.day a.first.now a.second.now a.out.now _ (sym c.in_ok-weigh.was ∙ c.weigh.ensures) _ (sym c.given.ensures ∙ c.in_ok-t.was))

pub put_file-requires : goal.put_file-requires
put_file-requires c =
    let a = c.args in
    has_room a.day a.first.now a.second.now a.out.now _ (sym c.in_ok-weigh.was ∙ c.weigh.ensures) _ (sym c.given.ensures ∙ c.in_ok-t.was)

pub returns-in_err-weigh : goal.returns-in_err-weigh
returns-in_err-weigh c =
    let a = c.args in
    let p = err_from_is_err_and c.from_residual.result c.from_residual.ensures.1 in
    rw (p.1, p.2) (not_weighed a.day a.first.now a.second.now a.out.now _ (sym c.in_err-weigh.was ∙ c.weigh.ensures))

pub returns-in_err-t : goal.returns-in_err-t
returns-in_err-t c =
    let a = c.args in
    let p = err_from_is_err_and c.from_residual-in_err-t.result c.from_residual-in_err-t.ensures.1 in
    rw (p.1, p.2) (no_room a.day a.first.now a.second.now a.out.now _ (sym c.in_ok-weigh.was ∙ c.weigh.ensures) _ (sym c.in_err-t.was ∙ c.given.ensures))

pub returns : goal.returns
returns c =
    let a = c.args in
    wrote a.day a.first.now a.second.now a.out.now _ (sym c.in_ok-weigh.was ∙ c.weigh.ensures) _ (sym c.given.ensures ∙ c.in_ok-t.was) _ c.put_file.ensures
