use Prim.Native.Nat.{◌+◌, ◌≤◌}
use mathlib.Core.Path.{◌≡◌, refl, ap, ◌∙◌}
use native.Mathlib.Omega.{arith}
use lib.ListN.{length}
use Rattle.operations.specs.Closing.{closed_file}
use Rattle.close_write.proofs.Files.{reading_start, may_read, takes_end, block_is, reading_next, this_one, none_more, more_records, going_start, start_fits, over_start, out_long, at_within, ends_within, has_room, going_next, last_room, going_last, over_length}
use Rattle.close_write.proofs.write.Goals as goal

pub slice_bounds-copy_to-end : goal.slice_bounds-copy_to-end
slice_bounds-copy_to-end c = omega (arith, more_records _ _ c.requires.0)

pub copy_to-requires : goal.copy_to-requires
copy_to-requires c = start_fits _ _ c.args.out.now c.requires.0 c.requires.2

pub loop-j-init : goal.loop-j-init
loop-j-init c = record { going = going_start _ _ _ _ c.requires.0 c.requires.2 c.copy_to.ensures; reading = reading_start _ _ _ c.requires.0 c.requires.1 }

pub figures_at-own-requires : goal.figures_at-own-requires
figures_at-own-requires c =
    let v = c.loop-j.invariant in
    may_read _ _ _ _ _ v.reading (this_one _ _ _ _ _ _ _ _ v.going v.reading c.loop-j-test.true)

pub overflow_add-next : goal.overflow_add-next
overflow_add-next c =
    let v = c.loop-j.invariant in
    let b = block_is _ _ _ _ _ v.reading (this_one _ _ _ _ _ _ _ _ v.going v.reading c.loop-j-test.true) _ c.figures_at-own.ensures _ refl in
    omega (arith, b.most)

pub with_record-requires : goal.with_record-requires
with_record-requires c =
    let v = c.loop-j.invariant in
    takes_end _ _ _ _ _ v.reading (this_one _ _ _ _ _ _ _ _ v.going v.reading c.loop-j-test.true) _ c.figures_at-own.ensures

pub slice_bounds-put_assignment-count : goal.slice_bounds-put_assignment-count
slice_bounds-put_assignment-count c = at_within _ _ _ _ _ c.loop-j.invariant.going

pub slice_bounds-put_assignment-start : goal.slice_bounds-put_assignment-start
slice_bounds-put_assignment-start c = at_within _ _ _ _ _ c.loop-j.invariant.going

pub put_assignment-at-requires : goal.put_assignment-at-requires
put_assignment-at-requires c =
    let v = c.loop-j.invariant in
    let b = block_is _ _ _ _ _ v.reading (this_one _ _ _ _ _ _ _ _ v.going v.reading c.loop-j-test.true) _ c.figures_at-own.ensures _ c.with_record.ensures in
    (record { more = b.more; most = b.most }, has_room _ _ _ _ _ v.going _ _ b)

pub overflow_add-at : goal.overflow_add-at
overflow_add-at c =
    let v = c.loop-j.invariant in
    let b = block_is _ _ _ _ _ v.reading (this_one _ _ _ _ _ _ _ _ v.going v.reading c.loop-j-test.true) _ c.figures_at-own.ensures _ c.with_record.ensures in
    let e : length c.loop-j.out ≡ length c.args.out.now = out_long _ _ _ _ _ v.going ∙ c.copy_to.auto.out in
    let h : c.loop-j.at + c.put_assignment-at.result ≤ length c.args.out.now = omega (arith, ends_within _ _ _ _ _ v.going _ _ b, c.put_assignment-at.ensures.0, e) in
    omega (arith, h, c.well_formed.1.1.1.0.0)

pub loop-j-preserved : goal.loop-j-preserved
loop-j-preserved c =
    let v = c.loop-j.invariant in
    let e = this_one _ _ _ _ _ _ _ _ v.going v.reading c.loop-j-test.true in
    let b = block_is _ _ _ _ _ v.reading e _ c.figures_at-own.ensures _ c.with_record.ensures in
    record { going = going_next _ _ _ _ _ v.going _ _ b _ _ c.put_assignment-at.ensures.0 c.put_assignment-at.ensures.1; reading = reading_next _ _ _ _ _ v.reading e _ c.figures_at-own.ensures }

pub slice_bounds-put_end-count : goal.slice_bounds-put_end-count
slice_bounds-put_end-count c = at_within _ _ _ _ _ c.loop-j.invariant.going

pub slice_bounds-put_end-start : goal.slice_bounds-put_end-start
slice_bounds-put_end-start c = at_within _ _ _ _ _ c.loop-j.invariant.going

pub put_end-requires : goal.put_end-requires
put_end-requires c =
    let v = c.loop-j.invariant in
    last_room _ _ _ _ _ v.going (none_more _ _ _ _ _ _ _ _ v.going v.reading (omega arith)) _ c.requires.0

pub returns : goal.returns
returns c =
    let v = c.loop-j.invariant in
    over_start _ _ _ _ _ c.requires.0 c.copy_to.ensures (going_last _ _ _ _ _ v.going (none_more _ _ _ _ _ _ _ _ v.going v.reading (omega arith)) _ c.requires.0 _ c.put_end.ensures)

pub shape_of-out : goal.shape_of-out
shape_of-out c = ap length (returns c) ∙ over_length (closed_file c.args.draft.now) c.args.out.now c.requires.2
