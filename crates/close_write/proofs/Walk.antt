-- The walk over one assignment of a sound draft: what holds at its start, from one record to the next, and where it stops.
-- Assumes nothing.
use Prim.Native.Nat.{ℕ, zero, suc, ◌+◌, ◌-◌, ◌*◌, ◌/◌, ◌≤◌, ◌<◌}
use mathlib.Core.Path.{◌≡◌, refl, sym, ap, ap₂, subst, ◌∙◌}
use mathlib.Core.List.{List, [], ◌∷◌, ◌++◌, append_assoc}
use mathlib.Core.Bool.{Bool, true, false, ◌&&◌}
use native.Mathlib.Omega.{arith}
use native.Mathlib.Numerals.{add-one}
use borrow.Author.Tests.{eqb-true, lt-ltb, ltb-true, ltb-false}
use lib.Dec.{eqb, ltb}
use lib.ListN.{length, take, drop}
use lib.Seq.{drop-drop}
use Rattle.std.specs.Prelude.{if◌then◌else◌}
use Rattle.services.specs.declared.Service.{Service}
use Rattle.figures.specs.Totals.{◌⊕◌, one_record, one_assignment, ◌⊞◌, undated, dated}
use Rattle.figures.specs.declared.totals.Totals.{Totals}
use Rattle.figures.specs.declared.totals.AssignmentTotals.{AssignmentTotals}
use Rattle.figures.proofs.Laws.{⊕-assoc, ⊕-none}
use Rattle.laws.proofs.Sound.{gains_join}
use Rattle.laws.specs.Meets.{gains, Meets}
use Rattle.layout.specs.Rows.{AllHold}
use Rattle.operations.specs.Ends.{end_record, end88}
use Rattle.operations.specs.Closing.{opens, behind88, ends_before, with_ends}
use Rattle.services.specs.Services.{code_for, service_for}
use Rattle.rules.specs.Codes.{service_code, record_code, kind_of}
use Rattle.rules.specs.Growth.{gain_for, gain, turn_for, turn, keys, after, opened}
use Rattle.rules.specs.Layouts.{rows}
use Rattle.rules.specs.Payments.{date_in, amount_in}
use Rattle.rules.specs.Run.{chunks, record_at}
use Rattle.rules.specs.declared.Assignment.{Assignment}
use Rattle.rules.specs.declared.Kind.{Kind}
use Rattle.rules.specs.declared.Kind.TheVariants.{R20}
use Rattle.rules.specs.declared.Mode.TheVariants.{Draft}
use Rattle.rules.specs.declared.State.{State}
use Rattle.rules.proofs.Codes.{twenty}
use Rattle.run_figures.specs.Blocks.{blocks, figures_from}
use Rattle.run_loop.proofs.Bounds.{small_next}
use Rattle.run_figures.proofs.Blocks.{blocks_on, blocks_open, blocks_none}
use Rattle.rules.proofs.Records.{rest_next, rest_end}
use Rattle.close_write.specs.Block.{records_from, between, state, brought, Ahead, behind_end, Block}
use Rattle.close_write.proofs.Within.{under, not_opening, grows, GrowsBy}

-- ---- records one by one
pub next_of : (d : List ℕ) (k : ℕ) → k < length d / 81 → records_from k d ≡ record_at k d ∷ records_from (k + 1) d
next_of d k h = rest_next d (length d / 81) k h

none_left : (d : List ℕ) (k : ℕ) → k ≡ length d / 81 → records_from k d ≡ []
none_left d k h = rest_end d (length d / 81) k h

last_cut : (n : ℕ) (b : List ℕ) → chunks (suc n) b ≡ chunks n b ++ (take 81 (drop (81 * n) b) ∷ [])
unfolding chunks
last_cut zero b = refl
last_cut (suc n) b =
    let e : 81 + 81 * n ≡ 81 * suc n = omega arith in
    ap (λ (x : List (List ℕ)). take 81 b ∷ x) (last_cut n (drop 81 b) ∙ ap (λ (x : List ℕ). chunks n (drop 81 b) ++ (take 81 x ∷ [])) (drop-drop (81 * n) 81 b ∙ ap (λ (x : ℕ). drop x b) e))

pub one_gain : (k : ℕ) (d : List ℕ) → gains (chunks (k + 1) d) ≡ gains (chunks k d) ⊕ gain (record_at k d)
unfolding gains
one_gain k d =
    ap (λ (x : ℕ). gains (chunks x d)) (add-one k) ∙ ap gains (last_cut k d) ∙ gains_join (chunks k d) (record_at k d ∷ [])
    ∙ ap (λ (x : Totals). gains (chunks k d) ⊕ x) (⊕-none (gain (record_at k d)))

one_more : (k j : ℕ) (d : List ℕ) → k ≤ j → between k (j + 1) d ≡ between k j d ++ (record_at j d ∷ [])
one_more k j d h =
    let e : j + 1 - k ≡ suc (j - k) = omega arith in
    let q : 81 * k + 81 * (j - k) ≡ 81 * j = omega arith in
    ap (λ (x : ℕ). chunks x (drop (81 * k) d)) e ∙ last_cut (j - k) (drop (81 * k) d)
    ∙ ap (λ (x : List ℕ). between k j d ++ (take 81 x ∷ [])) (drop-drop (81 * (j - k)) (81 * k) d ∙ ap (λ (x : ℕ). drop x d) q)

just_one : (k : ℕ) (d : List ℕ) → between k (k + 1) d ≡ record_at k d ∷ []
unfolding chunks
just_one k d = let e : k + 1 - k ≡ 1 = omega arith in ap (λ (x : ℕ). chunks x (drop (81 * k) d)) e

-- ---- what the definition writes behind a state
-- a record that does not open is written as it stands
pub plain : (st : State) (r : List ℕ) (rs : List (List ℕ)) → opens r ≡ false → with_ends st (r ∷ rs) ≡ r ∷ with_ends (after st r) rs
unfolding with_ends
plain st r rs h = ap (λ (b : Bool). if (b && ltb 0 st.file.assignments.0) then end88 (behind88 st).assignment ∷ r ∷ with_ends (after (behind88 st) r) rs else r ∷ with_ends (after st r) rs) h

-- one that opens has the 88 of the assignment at hand before it
end_before : (st : State) (r : List ℕ) (rs : List (List ℕ)) → 0 < st.file.assignments.0 → opens r ≡ true → with_ends st (r ∷ rs) ≡ end88 (behind88 st).assignment ∷ behind_end (behind88 st).file (r ∷ rs)
unfolding with_ends behind_end
end_before st r rs p h =
    let k : kind_of r ≡ R20 = twenty (record_code r) (eqb-true (record_code r) 20 h) in
    let b : ends_before st r ≡ true = rw (h, lt-ltb 0 st.file.assignments.0 p) in
    ap (λ (b : Bool). if b then end88 (behind88 st).assignment ∷ r ∷ with_ends (after (behind88 st) r) rs else r ∷ with_ends (after st r) rs) b
    ∙ ap (λ (k : Kind). end88 (behind88 st).assignment ∷ r ∷ with_ends (state ((behind88 st).file ⊕ gain_for k r) (turn_for k r (behind88 st).assignment)) rs) k

end_at_last : (st : State) → with_ends st [] ≡ end88 (behind88 st).assignment ∷ behind_end (behind88 st).file []
unfolding with_ends behind_end
end_at_last st = refl

-- ---- the walk: behind the records from the 20 on, before the j-th
pub record Under (d : List ℕ) (from j : ℕ) (t : AssignmentTotals) : Type 0 where
  pub more : from < j
  pub most : j ≤ length d / 81
  pub few : length d / 81 ≤ 200000
  pub ahead : Ahead d j
  pub within : under ahead.assignment.last ≡ true
  pub totals : t ≡ ahead.assignment.totals
  pub service : ahead.assignment.service ≡ service_for (service_code (record_at from d))
  pub one : t.totals.assignments.0 ≡ 1
  pub records : j ≡ from + t.totals.records.0
  pub left : figures_from (records_from from d) ≡ blocks ahead.assignment (records_from j d)
  pub file : ahead.file ≡ gains (chunks from d) ⊕ t.totals
  pub same : (g : Totals) → behind_end g (records_from from d) ≡ between from j d ++ with_ends (state (g ⊕ t.totals) ahead.assignment) (records_from j d)

-- the next record of records that meet the rules, and what is ahead behind it
module _ (d : List ℕ) (k : ℕ) (a : Ahead d k) (h : k < length d / 81) where
  met : Meets Draft a.window a.file a.keys a.assignment (record_at k d ∷ records_from (k + 1) d)
  met = subst (Meets Draft a.window a.file a.keys a.assignment) (next_of d k h) a.meets

  pub holds : AllHold a.file a.keys (record_at k d) (rows Draft a.window a.assignment (record_at k d))
  holds = unfold Meets in met.0

  pub step_on : Ahead d (k + 1)
  unfolding Meets AllHold
  step_on =
      record {
        window = a.window;
        file = a.file ⊕ gain (record_at k d);
        keys = a.keys ++ keys (record_at k d);
        assignment = turn (record_at k d) a.assignment;
        counted = ap (λ (x : Totals). x ⊕ gain (record_at k d)) a.counted ∙ sym (one_gain k d);
        meets = met.1;
        small = small_next k (kind_of (record_at k d)) a.window (state a.file a.assignment) a.keys (record_at k d) a.small met.0.1.1;
      }

  pub step_turned : step_on.assignment ≡ turn (record_at k d) a.assignment
  unfolding step_on
  step_turned = refl

-- a record within opens nothing, and is one record
brought_one : (r : List ℕ) → ((brought r).totals.assignments.0 ≡ 0) × ((brought r).totals.records.0 ≡ 1)
unfolding brought
brought_one r = go (eqb (record_code r) 30)
  where
    go : (b : Bool) → ((if b then dated (amount_in r) (date_in r) else undated one_record).totals.assignments.0 ≡ 0) × ((if b then dated (amount_in r) (date_in r) else undated one_record).totals.records.0 ≡ 1)
    go true = (refl, refl)
    go false = (refl, refl)

-- behind the 20
begun : (d : List ℕ) (from : ℕ) → Ahead d from → from < length d / 81 → length d / 81 ≤ 200000 → opens (record_at from d) ≡ true → Under d from (from + 1) (undated one_assignment)
unfolding behind_end step_on figures_from
begun d from a h few o =
    let r = record_at from d in
    let k : kind_of r ≡ R20 = twenty (record_code r) (eqb-true (record_code r) 20 o) in
    let n = step_on d from a h in
    let turned : n.assignment ≡ opened (service_for (service_code r)) = ap (λ (x : Kind). turn_for x r a.assignment) k in
    record {
      more = omega arith;
      most = omega arith;
      few = few;
      ahead = n;
      within = ap (λ (x : Assignment). under x.last) turned;
      totals = sym (ap (λ (x : Assignment). x.totals) turned);
      service = ap (λ (x : Assignment). x.service) turned;
      one = refl;
      records = refl;
      left = ap figures_from (next_of d from h) ∙ ap (λ (x : Assignment). blocks x (records_from (from + 1) d)) (sym turned);
      file = ap (λ (x : Kind). a.file ⊕ gain_for x r) k ∙ ap (λ (x : Totals). x ⊕ one_assignment) a.counted;
      same = λ g.
          ap (behind_end g) (next_of d from h)
          ∙ ap (λ (y : Assignment). r ∷ with_ends (state (g ⊕ one_assignment) y) (records_from (from + 1) d)) (sym turned)
          ∙ ap (λ (x : List (List ℕ)). x ++ with_ends (state (g ⊕ one_assignment) n.assignment) (records_from (from + 1) d)) (sym (just_one from d));
    }

module _ (d : List ℕ) (from j : ℕ) (t : AssignmentTotals) (u : Under d from j t) where
  module _ (h : j < length d / 81) (n : opens (record_at j d) ≡ false) where
    grown_here : GrowsBy (kind_of (record_at j d)) (record_at j d) u.ahead.assignment
    grown_here = grows u.ahead.window u.ahead.file u.ahead.keys u.ahead.assignment (record_at j d) (holds d j u.ahead h) u.within n

    walk_on : Under d from (j + 1) (t ⊞ brought (record_at j d))
    unfolding step_on
    walk_on =
        let r = record_at j d in
        let t' = t ⊞ brought r in
        let a = u.ahead.assignment in
        let v = step_on d j u.ahead h in
        let g' = grown_here in
        let i : (g : Totals) → (g ⊕ t.totals) ⊕ gain r ≡ g ⊕ t'.totals =
        λ g. ⊕-assoc g t.totals (gain r) ∙ ap (λ (x : Totals). g ⊕ (t.totals ⊕ x)) g'.file in
        record {
          more = omega (arith, u.more);
          most = omega arith;
          few = u.few;
          ahead = v;
          within = g'.under;
          totals = ap (λ (x : AssignmentTotals). x ⊞ brought r) u.totals ∙ sym g'.totals;
          service = g'.service ∙ u.service;
          one = omega (arith, u.one, (brought_one r).0);
          records = omega (arith, u.records, (brought_one r).1);
          left = u.left ∙ ap (blocks a) (next_of d j h) ∙ blocks_on a r (records_from (j + 1) d) (not_opening (record_code r) n);
          file = ap (λ (x : Totals). x ⊕ gain r) u.file ∙ i (gains (chunks from d));
          same = λ g.
              u.same g
              ∙ ap (λ (x : List (List ℕ)). between from j d ++ x) (ap (with_ends (state (g ⊕ t.totals) a)) (next_of d j h) ∙ plain (state (g ⊕ t.totals) a) r (records_from (j + 1) d) n
              ∙ ap (λ (x : Totals). r ∷ with_ends (state x v.assignment) (records_from (j + 1) d)) (i g))
              ∙ sym (append_assoc (between from j d) (r ∷ []) (with_ends (state (g ⊕ t'.totals) v.assignment) (records_from (j + 1) d)))
              ∙ ap (λ (x : List (List ℕ)). x ++ with_ends (state (g ⊕ t'.totals) v.assignment) (records_from (j + 1) d)) (sym (one_more from j d (omega (arith, u.more))));
        }

  -- where the next assignment opens, or nothing is left
  stops : (j < length d / 81 → opens (record_at j d) ≡ true)
      → ((st : State) → 0 < st.file.assignments.0 → with_ends st (records_from j d) ≡ end88 (behind88 st).assignment ∷ behind_end (behind88 st).file (records_from j d))
      → ((a : Assignment) → blocks a (records_from j d) ≡ a.totals ∷ figures_from (records_from j d))
      → Block d from j (t ⊞ undated one_record)
  stops o c f =
      let a = u.ahead.assignment in
      let t' = t ⊞ undated one_record in
      let i : t' ≡ a.totals ⊞ undated one_record = ap (λ (x : AssignmentTotals). x ⊞ undated one_record) u.totals in
      let more_of : (g : Totals) → (g ⊕ t.totals) ⊕ one_record ≡ g ⊕ t'.totals = λ g. ⊕-assoc g t.totals one_record in
      let end : Service → AssignmentTotals → List ℕ = λ s x. end_record (code_for s) 88 x.totals x.last in
      record {
        more = u.more;
        most = u.most;
        ahead = u.ahead;
        opener = o;
        own = t;
        left = u.left ∙ f a ∙ ap (λ (x : AssignmentTotals). x ∷ figures_from (records_from j d)) (sym u.totals);
        single = u.one;
        next = u.records;
        ended = refl;
        total = ap (λ (x : Totals). x ⊕ one_record) (sym u.ahead.counted ∙ u.file) ∙ more_of (gains (chunks from d));
        same = λ g.
            u.same g
            ∙ ap (λ (x : List (List ℕ)). between from j d ++ x)
            (c (state (g ⊕ t.totals) a) (omega (arith, u.one))
            ∙ ap₂ (λ (x : List ℕ) (y : Totals). x ∷ behind_end y (records_from j d)) (ap₂ end u.service (sym i)) (more_of g));
      }

  stops_at : j < length d / 81 → opens (record_at j d) ≡ true → Block d from j (t ⊞ undated one_record)
  stops_at h o =
      let r = record_at j d in
      let n = next_of d j h in
      stops (λ _. o)
      (λ st p. ap (with_ends st) n ∙ end_before st r (records_from (j + 1) d) p o ∙ ap (λ (x : List (List ℕ)). end88 (behind88 st).assignment ∷ behind_end (behind88 st).file x) (sym n))
      (λ a. ap (blocks a) n ∙ blocks_open a r (records_from (j + 1) d) (twenty (record_code r) (eqb-true (record_code r) 20 o)) ∙ ap (λ (x : List (List ℕ)). a.totals ∷ figures_from x) (sym n))

  stops_end : length d / 81 ≤ j → Block d from j (t ⊞ undated one_record)
  stops_end h =
      let n = none_left d j (omega (arith, u.most)) in
      stops (λ x. absurd (omega arith))
      (λ st p. ap (with_ends st) n ∙ end_at_last st ∙ ap (λ (x : List (List ℕ)). end88 (behind88 st).assignment ∷ behind_end (behind88 st).file x) (sym n))
      (λ a. ap (blocks a) n ∙ blocks_none a ∙ ap (λ (x : List (List ℕ)). a.totals ∷ figures_from x) (sym n))

-- ---- the assignment whose 20 stands behind the first k records
pub record Ending (d : List ℕ) (k : ℕ) : Type 0 where
  pub next : ℕ
  pub totals : AssignmentTotals
  pub block : Block d k next totals

-- with at most i records to come
ending_from : (d : List ℕ) (from i j : ℕ) (t : AssignmentTotals) → Under d from j t → length d / 81 ≤ j + i → Ending d from
ending_from d from zero j t u h = record { next = j; totals = t ⊞ undated one_record; block = stops_end d from j t u (omega (arith, h)) }
ending_from d from (suc i) j t u h = go (ltb j (length d / 81)) (opens (record_at j d)) refl refl (λ v. ending_from d from i (j + 1) (t ⊞ brought (record_at j d)) v (omega (arith, h)))
  where
    go : (b o : Bool) → ltb j (length d / 81) ≡ b → opens (record_at j d) ≡ o → (Under d from (j + 1) (t ⊞ brought (record_at j d)) → Ending d from) → Ending d from
    go false o e q on = record { next = j; totals = t ⊞ undated one_record; block = stops_end d from j t u (ltb-false j (length d / 81) e) }
    go true true e q on = record { next = j; totals = t ⊞ undated one_record; block = stops_at d from j t u (ltb-true j (length d / 81) e) q }
    go true false e q on = on (walk_on d from j t u (ltb-true j (length d / 81) e) q)

pub ending : (d : List ℕ) (k : ℕ) → Ahead d k → k < length d / 81 → length d / 81 ≤ 200000 → opens (record_at k d) ≡ true → Ending d k
ending d k a h few o = ending_from d k (length d / 81) (k + 1) (undated one_assignment) (begun d k a h few o) (omega arith)
