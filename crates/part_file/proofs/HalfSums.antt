-- The figures that the run left of an accepted file, shared out to the two parts.
-- Assumes nothing.
use Prim.Native.Nat.{ℕ, ◌+◌, ◌-◌, ◌≤◌, ◌<◌}
use mathlib.Core.Path.{◌≡◌, refl, sym, ap, ap₂, subst, ◌∙◌}
use mathlib.Core.List.{List, [], ◌∷◌, ◌++◌, append_assoc}
use mathlib.Core.Bool.{Bool, true, false}
use native.Mathlib.Omega.{arith}
use lib.Dec.{eqb}
use lib.ListN.{length}
use Rattle.std.specs.Prelude.{if◌then◌else◌}
use Rattle.dates.specs.declared.Window.{Window}
use Rattle.figures.specs.Totals.{◌⊕◌, one_record}
use Rattle.figures.specs.declared.totals.Totals.{Totals}
use Rattle.figures.specs.declared.totals.AssignmentTotals.{AssignmentTotals}
use Rattle.figures.proofs.Laws.{⊕-none}
use Rattle.run_growth.specs.Bounds.{Bounded}
use Rattle.layout.specs.Rows.{AllHold}
use Rattle.laws.specs.Fits.{NoEnd}
use Rattle.laws.specs.Meets.{Meets}
use Rattle.laws.specs.View.{headed, figures_of, made, Good}
use Rattle.laws.proofs.Bodies.{no_end, behind_head}
use Rattle.laws.proofs.Cuts.{first_of, others_of, cut_body}
use Rattle.laws.proofs.EndRecords.{kind_89}
use Rattle.laws.proofs.EndsPut.{gains_records, gain_89}
use Rattle.laws.proofs.Frame.{fitted}
use Rattle.laws.proofs.Sound.{gains_join}
use Rattle.operations.specs.Ends.{end89}
use Rattle.operations.specs.Parting.{through}
use Rattle.rules.specs.Codes.{record_code, kind_of, number_of_kind}
use Rattle.rules.specs.Growth.{gain, gains, turn, start}
use Rattle.rules.specs.declared.Kind.{Kind}
use Rattle.rules.specs.declared.Kind.TheVariants.{R10, R20, R89, Other}
use Rattle.limits.specs.Limits.{most_records}
use Rattle.rules.specs.declared.Mode.TheVariants.{File}
use Rattle.run_figures.specs.Blocks.{blocks, figures_from}
use Rattle.run_figures.proofs.Blocks.{blocks_on, blocks_open}
use Rattle.run_figures.specs.Slots.{summed, Summable, Holding}
use Rattle.run_figures.proofs.Held.{held_next, held_front, held_back, summed_is, summable}
use Rattle.run_figures.proofs.Assignments.{Listed, AllListed, listed_join, all_listed, gains_bounded, figures_of_lem, figures_cut}
use Rattle.part_divide.specs.Halves.{HalfSums}

-- the boundary lies within the body
pub through_within : (k : ℕ) (rs : List (List ℕ)) → through k rs ≤ length rs
unfolding through
through_within k [] = omega arith
through_within k (r ∷ rs) = go (eqb k 0) (through_within (if eqb (record_code r) 88 then k - 1 else k) rs)
  where
    go : (b : Bool) → through (if eqb (record_code r) 88 then k - 1 else k) rs ≤ length rs → (if b then 0 else 1 + through (if eqb (record_code r) 88 then k - 1 else k) rs) ≤ length (r ∷ rs)
    go true h = omega arith
    go false h = omega (arith, h)

-- a record type is none but itself
differ : (j k : Kind) → (number_of_kind j ≡ number_of_kind k → ⊥) → j ≡ k → ⊥
differ j k n e = n (ap number_of_kind e)

-- a body of whole assignments begins with a 20
record Begun (body : List (List ℕ)) : Type 0 where
  first : List ℕ
  others : List (List ℕ)
  is : body ≡ first ∷ others
  twenty : kind_of first ≡ R20

begun : (w : Window) (head : List ℕ) (body : List (List ℕ)) → Good w head body → 0 < (gains body).assignments.0 → Begun body
unfolding gains Meets AllHold NoEnd
begun w head [] g n = absurd (omega arith)
begun w head (r ∷ rs) g n =
    record { first = r; others = rs; is = refl; twenty = behind_head.first (kind_of r) g.meets.0.1.0 (no_end w one_record [] headed (r ∷ rs) g.meets g.ended).0 }

-- its records are those of assignments, and its figures are bounded
body_listed : (w : Window) (head : List ℕ) (body : List (List ℕ)) → Good w head body → AllListed body
body_listed w head body g = all_listed File w one_record [] headed body (differ R10 Other (λ e. omega (arith, e))) g.meets

-- what the slots give of a front and a back, with the 89 behind both
record Two (figures : List ℕ) (k m : ℕ) (x y : List (List ℕ)) : Type 0 where
  first_summable : Summable figures 1 (1 + k)
  first : summed figures 1 k ≡ gains x
  others_summable : Summable figures (1 + k) (1 + k + m)
  others : summed figures (1 + k) m ≡ gains y ⊕ one_record

module _ (w : Window) (head : List ℕ) (r : List ℕ) (x : List (List ℕ)) (s : List ℕ) (y : List (List ℕ)) (last : List ℕ) where
  two : Good w head (r ∷ x) → Good w head (s ∷ y) → kind_of r ≡ R20 → kind_of s ≡ R20 → kind_of last ≡ R89 → (figures : List ℕ) (k m : ℕ) → k ≡ (gains (r ∷ x)).assignments.0 → m ≡ (gains (s ∷ y)).assignments.0
      → Holding figures 0 (blocks start.assignment (head ∷ ((r ∷ x) ++ ((s ∷ y) ++ (last ∷ []))))) → Two figures k m (r ∷ x) (s ∷ y)
  unfolding gains AllListed
  two f b kr ks kl figures k m ek em h =
      let ys = y ++ (last ∷ []) in
      let none_yet = turn head start.assignment in
      let is : blocks start.assignment (head ∷ (r ∷ (x ++ (s ∷ ys)))) ≡ none_yet.totals ∷ (figures_from (r ∷ x) ++ figures_from (s ∷ ys)) =
      blocks_on start.assignment head (r ∷ (x ++ (s ∷ ys))) (λ e. differ R10 R20 (λ z. omega (arith, z)) (sym f.type ∙ e)) ∙ blocks_open none_yet r (x ++ (s ∷ ys)) kr
      ∙ ap (λ (z : List AssignmentTotals). none_yet.totals ∷ z) (figures_cut r x s ys ks) in
      let held = held_next figures 0 none_yet.totals (figures_from (r ∷ x) ++ figures_from (s ∷ ys)) (subst (Holding figures 0) is h) in
      let end : Listed last = record { no_head = λ e. differ R89 R10 (λ z. omega (arith, z)) (sym kl ∙ e); typed = λ e. differ R89 Other (λ z. omega (arith, z)) (sym kl ∙ e) } in
      let fx = figures_of_lem r x kr (body_listed w head (r ∷ x) f) in
      let fy = figures_of_lem s ys ks (listed_join (s ∷ y) (last ∷ []) (body_listed w head (s ∷ y) b) (end, tt)) in
      let gy : gains (s ∷ ys) ≡ gains (s ∷ y) ⊕ one_record = gains_join (s ∷ y) (last ∷ []) ∙ ap (λ (z : Totals). gains (s ∷ y) ⊕ z) (⊕-none (gain last) ∙ gain_89 last kl) in
      let bx = gains_bounded File w one_record [] headed (r ∷ x) (omega arith) (omega arith) (omega (arith, f.few)) f.meets in
      let by = gains_bounded File w one_record [] headed (s ∷ y) (omega arith) (omega arith) (omega (arith, b.few)) b.meets in
      let bys : Bounded most_records (gains (s ∷ ys)) = subst (Bounded most_records) (sym gy) (record {
        assignments = omega (arith, by.assignments);
        transactions = omega (arith, by.transactions);
        records = omega (arith, gains_records (s ∷ y), b.few);
        sum = omega (arith, by.sum);
      }) in
      let nx : length (figures_from (r ∷ x)) ≡ k = fx.many ∙ sym ek in
      let ny : length (figures_from (s ∷ ys)) ≡ m = fy.many ∙ omega (arith, ap (λ (z : Totals). z.assignments.0) gy, em) in
      let hx = held_front figures 1 (figures_from (r ∷ x)) (figures_from (s ∷ ys)) held in
      let hy = subst (λ (i : ℕ). Holding figures (1 + i) (figures_from (s ∷ ys))) nx (held_back figures 1 (figures_from (r ∷ x)) (figures_from (s ∷ ys)) held) in
      record {
        first_summable = summable figures 1 k (figures_from (r ∷ x)) hx (fx.small bx) nx (subst (Bounded most_records) (sym fx.total) bx);
        first = summed_is figures 1 k (figures_from (r ∷ x)) hx (fx.small bx) nx ∙ fx.total;
        others_summable = summable figures (1 + k) m (figures_from (s ∷ ys)) hy (fy.small bys) ny (subst (Bounded most_records) (sym fy.total) bys);
        others = summed_is figures (1 + k) m (figures_from (s ∷ ys)) hy (fy.small bys) ny ∙ fy.total ∙ gy;
      }

-- of a good body, cut behind its k-th assignment
pub half_sums : (w : Window) (head : List ℕ) (body : List (List ℕ)) → Good w head body → (k all : ℕ) → 1 ≤ k → k < all → all ≡ (gains body).assignments.0
    → (figures : List ℕ) → Holding figures 0 (blocks start.assignment (made head body)) → HalfSums figures k all body
unfolding made
half_sums w head body g k all some h n figures hold =
    let c = cut_body w head body k g some (omega (arith, n)) in
    let x = first_of k body in
    let y = others_of k body in
    let last = end89 (figures_of body) in
    let bx = begun w head x c.cut.front (omega (arith, c.first_many)) in
    let by = begun w head y c.cut.back (omega (arith, c.others_many, n)) in
    let parts : head ∷ (body ++ (last ∷ [])) ≡ head ∷ ((bx.first ∷ bx.others) ++ ((by.first ∷ by.others) ++ (last ∷ []))) =
    ap (λ (z : List (List ℕ)). head ∷ (z ++ (last ∷ []))) (sym c.whole) ∙ ap (λ (z : List (List ℕ)). head ∷ z) (append_assoc x y (last ∷ []))
    ∙ ap₂ (λ (p q : List (List ℕ)). head ∷ (p ++ (q ++ (last ∷ [])))) bx.is by.is in
    let t = two w head bx.first bx.others by.first by.others last (subst (Good w head) bx.is c.cut.front) (subst (Good w head) by.is c.cut.back) bx.twenty by.twenty
    (kind_89 (one_record ⊕ gains body)) figures k (all - k) (sym c.first_many ∙ ap (λ (z : List (List ℕ)). (gains z).assignments.0) bx.is) (ap (λ (i : ℕ). i - k) n ∙ sym c.others_many ∙ ap (λ (z : List (List ℕ)). (gains z).assignments.0) by.is)
    (subst (λ (z : List (List ℕ)). Holding figures 0 (blocks start.assignment z)) parts hold) in
    let i : 1 + k ≡ k + 1 = omega arith in
    let j : 1 + k + (all - k) ≡ all + 1 = omega arith in
    let u : k + 1 - 1 ≡ k = omega arith in
    let v : all + 1 - (k + 1) ≡ all - k = omega arith in
    let most = fitted File w one_record [] headed body (omega arith) (omega arith) g.meets in
    record {
      few = omega arith;
      most = omega (arith, most.rooms, n);
      within = through_within k body;
      first_summable = subst (Summable figures 1) i t.first_summable;
      first = ap (summed figures 1) u ∙ t.first ∙ ap gains (sym bx.is);
      others_summable = subst (Summable figures (k + 1)) j (subst (λ (a : ℕ). Summable figures a (1 + k + (all - k))) i t.others_summable);
      others = ap₂ (summed figures) (sym i) v ∙ t.others ∙ ap (λ (z : List (List ℕ)). gains z ⊕ one_record) (sym by.is);
    }
