-- What making a line answers and leaves, from what making its record does.
-- Assumes nothing.
use Prim.Native.Nat.{ℕ, ◌≤◌}
use mathlib.Core.Path.{◌≡◌, refl, sym, ap, subst, ◌∙◌}
use mathlib.Core.List.{List, []}
use mathlib.Core.Bool.{Bool, true, false}
use borrow.Author.Tests.{leb-true}
use lib.Dec.{leb}
use lib.ListN.{length}
use Rattle.std.specs.Prelude.{if◌then◌else◌, Ok, Err}
use Rattle.figures.specs.Totals.{none}
use Rattle.layout.specs.Rows.{first_fault}
use Rattle.limits.specs.Limits.{record_bytes}
use Rattle.layout.specs.declared.Reason.TheVariants.{NotFixed, NoRoom}
use Rattle.rules.specs.Alone.{own_table}
use Rattle.rules.specs.declared.Refusal.{Refusal}
use Rattle.make_record.proofs.Promised.{ends}
use Rattle.rules.specs.declared.Kind.{Kind}
use Rattle.operations.specs.Making.{record_from, too_long, not_made, on_sound, judged, make_of, lent_record, made_bytes, recorded}
use Rattle.operations.specs.Promises.{MakePromise}
use Rattle.make_lines.specs.Draft.{slots_found, is_given, fault_in, puts_of, kind_in, given_in, line_making, line_record, LinePromise}
use Rattle.layout.specs.Findings.{Finding, fault, sound}
use Rattle.operations.specs.Making.{Making}

-- a record type that is told, and one that is asked for
pub of_kind : (k j : Kind) (vs : List (List ℕ)) {out after : List ℕ} {x : Making} → k ≡ j → MakePromise j (puts_of j vs) out x after → MakePromise k (puts_of k vs) out x after
of_kind k j vs {out} {after} {x} e m = subst (λ (i : Kind). MakePromise i (puts_of i vs) out x after) (sym e) m

-- what is sound is of a record type that lines have
pub sound_given : (k : Kind) (vs : List (List ℕ)) → fault_in k vs ≡ sound → is_given k ≡ true
unfolding fault_in
sound_given k vs h = go (is_given k) h
  where
    go : (b : Bool) → (if b then slots_found k vs else Err (fault NotFixed 4)) ≡ sound → b ≡ true
    go true e = refl
    go false e = cc

module _ (l out : List ℕ) (k : Kind) (e : k ≡ kind_in l) where
  pub line_refused : {x : Refusal} {y : Making} → on_sound (fault_in k (given_in l)) recorded ≡ Err x → y ≡ Err x → LinePromise l out y out
  unfolding lent_record
  line_refused {x} h g =
      let m = make_of (kind_in l) (puts_of (kind_in l) (given_in l)) (length out) in
      let f : on_sound (fault_in (kind_in l) (given_in l)) m ≡ Err x = ends _ x m (ap (λ (i : Kind). on_sound (fault_in i (given_in l)) recorded) (sym e) ∙ h) in
      record {
        answers = g ∙ sym f;
        leaves = sym (ap (λ (z : Making). lent_record z (line_record l) out) f);
      }

  pub line_made : {after : List ℕ} {x : Making} → fault_in k (given_in l) ≡ sound → MakePromise k (puts_of k (given_in l)) out x after → LinePromise l out x after
  unfolding made_bytes
  line_made {after} {x} h p =
      let f : fault_in (kind_in l) (given_in l) ≡ sound = ap (λ (i : Kind). fault_in i (given_in l)) (sym e) ∙ h in
      let q = of_kind (kind_in l) k (given_in l) (sym e) p in
      let m = make_of (kind_in l) (puts_of (kind_in l) (given_in l)) (length out) in
      record {
        answers = q.answers ∙ sym (ap (λ (x : Finding). on_sound x m) f);
        leaves = q.leaves ∙ sym (ap (λ (x : Finding). lent_record (on_sound x m) (line_record l) out) f);
      }

-- what is made has room
behind_sound : (f : Finding) (x : Making) → on_sound f x ≡ recorded → x ≡ recorded
behind_sound (Ok u) x h = h
behind_sound (Err e) x h = cc

pub made_room : (l : List ℕ) (room : ℕ) → line_making l room ≡ recorded → record_bytes ≤ room
unfolding make_of judged
made_room l room h =
    let k = kind_in l in
    let ps = puts_of k (given_in l) in
    leb-true record_bytes room
    (go (leb record_bytes room)
    (behind_sound (first_fault none [] (record_from ps) (own_table k (record_from ps))) (if leb record_bytes room then recorded else not_made NoRoom 0)
    (behind_sound (too_long ps) (judged k (record_from ps) room) (behind_sound (fault_in k (given_in l)) (make_of k ps room) h))))
  where
    go : (b : Bool) → (if b then recorded else not_made NoRoom 0) ≡ recorded → b ≡ true
    go true e = refl
    go false e = cc
