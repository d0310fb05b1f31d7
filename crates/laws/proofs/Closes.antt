-- A draft that meets the rules, with its end records put in, is a file that meets them, and without them again it is the draft.
-- Assumes nothing.
use Prim.Native.Nat.{ℕ, ◌+◌, ◌^◌, ◌≤◌, ◌<◌}
use mathlib.Core.Path.{◌≡◌, refl, sym, ap, subst, ◌∙◌}
use mathlib.Core.List.{List, [], ◌∷◌, ◌++◌}
use mathlib.Core.Bool.{Bool, true, false, ◌&&◌, true≢false}
use native.Mathlib.Nat.{add-zero}
use native.Mathlib.Omega.{arith}
use borrow.Author.Tests.{eqb-true}
use lib.Dec.{eqb, ltb}
use Rattle.fields.proofs.Tests.{and_left, and_right}
use Rattle.dates.specs.declared.Window.{Window}
use Rattle.figures.specs.Figures.{limit_wide}
use Rattle.figures.specs.Totals.{◌⊕◌, one_record}
use Rattle.figures.specs.declared.totals.Totals.{Totals}
use Rattle.figures.proofs.Laws.{⊕-assoc, ⊕-comm}
use Rattle.layout.specs.Rows.{AllHold, member}
use Rattle.rules.specs.Codes.{record_code, kind_of, number_of_kind}
use Rattle.rules.proofs.Codes.{twenty}
use Rattle.rules.specs.Order.{may_follow, may_end}
use Rattle.rules.specs.Layouts.{rows, table_for, record20}
use Rattle.rules.specs.Growth.{gain_for, gain, turn_for, turn, keys_for, keys, after}
use Rattle.rules.specs.declared.Assignment.{Assignment}
use Rattle.rules.specs.declared.Kind.{Kind}
use Rattle.rules.specs.declared.Kind.TheVariants.{R10, R20, R30, R31, R40, R41, R49, R50, R88, R89, Other}
use Rattle.rules.specs.declared.Mode.TheVariants.{File, Draft}
use Rattle.rules.specs.declared.State.{State}
use Rattle.operations.specs.Closing.{opens, behind88, ends_before, with_ends}
use Rattle.laws.specs.Meets.{gains, turns, all_keys, Meets, Ends}
use Rattle.laws.specs.Fits.{Fits, NoEnd}
use Rattle.laws.specs.Stripped.{an_end, strip}
use Rattle.laws.proofs.Frame.{transfer, asked, fits_on, frame}
use Rattle.laws.proofs.Types.{code_is, end_is}
use Rattle.laws.proofs.EndRecords.{Small, its88, kind_88, holds_88, its89, kind_89, holds_89}
use Rattle.laws.proofs.Follows.{known, Stands, reopens, in_draft}
use Rattle.laws.proofs.EndsPut.{put_none, put_88, put_last, kept, taken_out, gain_88, keys_88, turn_88}

-- ---- an assignment's figures are at most its file's, and transactions are records
pub record Below (a : Assignment) (f : Totals) : Type 0 where
  pub transactions : a.totals.totals.transactions.0 ≤ f.transactions.0
  pub records : a.totals.totals.records.0 ≤ f.records.0
  pub sum : a.totals.totals.sum.0 ≤ f.sum.0
  pub counted : f.transactions.0 ≤ f.records.0

pub below_on : (k : Kind) (r : List ℕ) (a : Assignment) (f : Totals) → Below a f → Below (turn_for k r a) (f ⊕ gain_for k r)
below_on R10 r a f h = omega arith
below_on R20 r a f h = omega arith
below_on R30 r a f h = omega arith
below_on R31 r a f h = omega arith
below_on R40 r a f h = omega arith
below_on R41 r a f h = omega arith
below_on R49 r a f h = omega arith
below_on R50 r a f h = omega arith
below_on R88 r a f h = omega arith
below_on R89 r a f h = omega arith
below_on Other r a f h = omega arith

pub below_behind : (a : Assignment) (f : Totals) (rs : List (List ℕ)) → Below a f → Below (turns a rs) (f ⊕ gains rs)
unfolding turns gains
below_behind a f [] h = omega (arith, h)
below_behind a f (r ∷ rs) h = subst (Below (turns (turn r a) rs)) (⊕-assoc f (gain r) (gains rs)) (below_behind (turn r a) (f ⊕ gain r) rs (below_on (kind_of r) r a f h))

-- so they fit into the fields of the end records
small_88 : (a : Assignment) (f : Totals) → Below a f → f.records.0 + 1 < 10 ^ 8 → f.sum.0 ≤ limit_wide.0 → Small a.totals.totals
small_88 a f b r s = omega arith

pub small_89 : (a : Assignment) (f : Totals) → Below a f → f.records.0 + 1 < 10 ^ 8 → f.sum.0 ≤ limit_wide.0 → Small f
small_89 a f b r s = omega arith

-- ---- an 88 before more records
module _ (w : Window) (f : Totals) (ks : List ℕ) (a : Assignment) (r : List ℕ) (k : kind_of r ≡ R88) (rs : List (List ℕ)) where
  pub meets_88 : AllHold f ks r (rows File w a r) → Meets File w (f ⊕ one_record) ks (turn_for R88 [] a) rs → Meets File w f ks a (r ∷ rs)
  unfolding Meets
  meets_88 h m = (h, rw (gain_88 r k, keys_88 r k ks, turn_88 r k a) m)

  pub met_88 : Meets File w f ks a (r ∷ rs) → Meets File w (f ⊕ one_record) ks (turn_for R88 [] a) rs
  unfolding Meets
  met_88 h = rw (gain_88 r k, keys_88 r k ks, turn_88 r k a) at h.1

  pub turns_88 : turns a (r ∷ rs) ≡ turns (turn_for R88 [] a) rs
  unfolding turns
  turns_88 = ap (λ (x : Assignment). turns x rs) (turn_88 r k a)

-- a 20 asks nothing of the assignment before it that the 88 between them changes
pub table_20 : (w : Window) (f f' : Totals) (ks r : List ℕ) (a : Assignment) (g : Totals) (l : List ℕ) → Fits f' ks (gain_for R20 r ⊕ g) (keys_for R20 r ++ l)
    → AllHold f ks r (record20 a r) → AllHold f' ks r (record20 (turn_for R88 [] a) r)
table_20 w f f' ks r a g l fit h = transfer f f' ks ks r (record20 a r) h (asked R20 w a r f' ks g l (λ e. true≢false (ap (λ (k : Kind). eqb (number_of_kind k) 20) e)) fit)

-- nor does it keep anything of it
pub anew : (a a' : Assignment) (r : List ℕ) → kind_of r ≡ R20 → turn r a ≡ turn r a'
anew a a' r k = ap (λ (x : Kind). turn_for x r a) k ∙ sym (ap (λ (x : Kind). turn_for x r a') k)

-- what fits depends on the file's sum and its number of assignments alone
pub refits : (f f' : Totals) (ks : List ℕ) (g : Totals) (l : List ℕ) → f.sum.0 ≡ f'.sum.0 → f.assignments.0 ≡ f'.assignments.0 → Fits f ks g l → Fits f' ks g l
refits f f' ks g l s n h = record { sums = omega (arith, s, h.sums); rooms = omega (arith, n, h.rooms); news = h.news }

-- one record more is nothing to it
pub fits_counted : (f : Totals) (ks : List ℕ) (g : Totals) (l : List ℕ) → Fits f ks g l → Fits (f ⊕ one_record) ks g l
fits_counted f ks g l h = refits f (f ⊕ one_record) ks g l (omega arith) (omega arith) h

module _ (w : Window) where
  -- a draft under way, behind a state of the file that it is closed to
  pub record Drafted (st : State) (ks : List ℕ) (rs : List (List ℕ)) : Type 0 where
    pub place : Stands st.assignment st.file
    pub below : Below st.assignment st.file
    pub fits : Fits st.file ks (gains rs) (all_keys rs)
    pub few : st.file.records.0 + (gains rs).records.0 + (gains rs).assignments.0 + 2 < 10 ^ 8
    pub meets : Meets Draft w st.file ks st.assignment rs
    pub ends : Ends Draft (turns st.assignment rs)

  drafted_on : (st : State) (ks r : List ℕ) (rs : List (List ℕ)) → Drafted st ks (r ∷ rs) → Drafted (after st r) (ks ++ keys r) rs
  unfolding Meets gains turns all_keys AllHold
  drafted_on st ks r rs d =
      record {
        place = (in_draft st.assignment st.file (kind_of r) r d.place d.meets.0.1.0).on;
        below = below_on (kind_of r) r st.assignment st.file d.below;
        fits = fits_on (kind_of r) r st.file ks (gains rs) (all_keys rs) d.fits;
        few = omega (arith, d.few);
        meets = d.meets.1;
        ends = d.ends;
      }

  -- no record of a draft is an end
  pub no_ends : (f : Totals) (ks : List ℕ) (a : Assignment) (rs : List (List ℕ)) → Stands a f → Meets Draft w f ks a rs → NoEnd rs
  unfolding Meets NoEnd AllHold
  no_ends f ks a [] s h = tt
  no_ends f ks a (r ∷ rs) s h =
      let v = in_draft a f (kind_of r) r s h.0.1.0 in
      ((λ e. true≢false (sym (ap (λ (k : Kind). an_end (number_of_kind k)) e) ∙ v.kept)), no_ends (f ⊕ gain r) (ks ++ keys r) (turn r a) rs v.on h.1)

  -- behind it the draft stands where a draft can be
  pub stands_behind : (f : Totals) (ks : List ℕ) (a : Assignment) (rs : List (List ℕ)) → Stands a f → Meets Draft w f ks a rs → Stands (turns a rs) (f ⊕ gains rs)
  unfolding Meets AllHold turns gains
  stands_behind f ks a [] s h = rw (add-zero f.assignments.0) s
  stands_behind f ks a (r ∷ rs) s h =
      subst (Stands (turns (turn r a) rs)) (⊕-assoc f (gain r) (gains rs))
      (stands_behind (f ⊕ gain r) (ks ++ keys r) (turn r a) rs (in_draft a f (kind_of r) r s h.0.1.0).on h.1)

  -- of the file it asks the sum, the number of assignments and the keys alone
  pub recounted : (f f' : Totals) (ks : List ℕ) (a : Assignment) (rs : List (List ℕ)) → f.sum.0 ≡ f'.sum.0 → f.assignments.0 ≡ f'.assignments.0 → Stands a f
      → Fits f ks (gains rs) (all_keys rs) → Meets Draft w f ks a rs → Meets Draft w f' ks a rs
  recounted f f' ks a rs s n p fit h = frame Draft w f f' ks ks a rs (no_ends f ks a rs p h) (refits f f' ks (gains rs) (all_keys rs) s n fit) h

  -- one record more in the file changes nothing
  abbrev counted : State → State
  counted st = record { file = st.file ⊕ one_record; assignment = st.assignment }

  drafted_counted : (st : State) (ks : List ℕ) (rs : List (List ℕ)) → Drafted st ks rs → st.file.records.0 + (gains rs).records.0 + (gains rs).assignments.0 + 3 < 10 ^ 8
      → Drafted (counted st) ks rs
  drafted_counted st ks rs d few =
      record {
        place = rw (add-zero st.file.assignments.0) d.place;
        below = omega (arith, d.below);
        fits = fits_counted st.file ks (gains rs) (all_keys rs) d.fits;
        few = omega (arith, few);
        meets = recounted st.file (st.file ⊕ one_record) ks st.assignment rs (omega arith) (omega arith) d.place d.fits d.meets;
        ends = d.ends;
      }

  -- behind an 88 and a 20 the file has that one record more
  behind_20 : (st : State) (r : List ℕ) → kind_of r ≡ R20 → counted (after st r) ≡ after (behind88 st) r
  behind_20 st r k = λ i. record { file = files i; assignment = anew st.assignment (turn_for R88 [] st.assignment) r k i }
    where
      files : (st.file ⊕ gain r) ⊕ one_record ≡ (st.file ⊕ one_record) ⊕ gain r
      files = ⊕-assoc st.file (gain r) one_record ∙ ap (λ (t : Totals). st.file ⊕ t) (⊕-comm (gain r) one_record) ∙ sym (⊕-assoc st.file one_record (gain r))

  opens_20 : (st : State) (r : List ℕ) → ends_before st r ≡ true → kind_of r ≡ R20
  opens_20 st r e = twenty (record_code r) (eqb-true (record_code r) 20 (and_left (opens r) (ltb 0 st.file.assignments.0) e))

  drafted_88 : (st : State) (ks r : List ℕ) (rs : List (List ℕ)) → ends_before st r ≡ true → Drafted st ks (r ∷ rs) → Drafted (after (behind88 st) r) (ks ++ keys r) rs
  unfolding gains
  drafted_88 st ks r rs e d =
      let k = opens_20 st r e in
      let one : (gain r).assignments.0 ≡ 1 = ap (λ (x : Kind). (gain_for x r).assignments.0) k in
      subst (λ (s : State). Drafted s (ks ++ keys r) rs) (behind_20 st r k)
      (drafted_counted (after st r) (ks ++ keys r) rs (drafted_on st ks r rs d) (omega (arith, d.few, one)))

  -- what closing it gives
  pub record Closed (st : State) (ks : List ℕ) (rs : List (List ℕ)) : Type 0 where
    pub meets : Meets File w st.file ks st.assignment (with_ends st rs)
    pub ends : Ends File (turns st.assignment (with_ends st rs))
    pub back : strip (with_ends st rs) ≡ rs

  -- at its end: the last 88, and the 89
  closes_last : (st : State) (ks : List ℕ) → Drafted st ks [] → Closed st ks []
  unfolding Meets turns may_end may_follow member strip
  closes_last st ks d =
      let f = st.file in
      let a = st.assignment in
      let more = f ⊕ one_record in
      let p = put_last st in
      let e88 = kind_88 a in
      let e89 = kind_89 more in
      let low : f.sum.0 ≤ limit_wide.0 = omega (arith, d.fits.sums) in
      let h88 = holds_88 a f ks w (small_88 a f d.below (omega (arith, d.few)) low) d.ends.may d.ends.gave in
      let h89 = holds_89 more ks w (turn_for R88 [] a) (small_89 (turn_for R88 [] a) more (below_on R88 [] a f d.below) (omega (arith, d.few)) (omega (arith, low))) refl in
      let last : turns a (its88 a ∷ its89 more ∷ []) ≡ turn_for R89 [] (turn_for R88 [] a)
      = turns_88 w f ks a (its88 a) e88 (its89 more ∷ []) ∙ ap (λ (x : Kind). turn_for x (its89 more) (turn_for R88 [] a)) e89 in
      record {
        meets = subst (Meets File w f ks a) (sym p) (meets_88 w f ks a (its88 a) e88 (its89 more ∷ []) h88 (h89, tt));
        ends = subst (λ (x : List (List ℕ)). Ends File (turns a x)) (sym p) (subst (Ends File) (sym last) (record { may = refl; gave = refl }));
        back = ap strip p ∙ taken_out (its88 a) (its89 more ∷ []) (end_is (its88 a) R88 e88 refl) ∙ taken_out (its89 more) [] (end_is (its89 more) R89 e89 refl);
      }

  -- a record that ends no assignment
  closes_none : (st : State) (ks r : List ℕ) (rs : List (List ℕ)) → ends_before st r ≡ false → Drafted st ks (r ∷ rs) → Closed (after st r) (ks ++ keys r) rs → Closed st ks (r ∷ rs)
  unfolding Meets AllHold turns
  closes_none st ks r rs e d c =
      let p = put_none st r rs e in
      let v = in_draft st.assignment st.file (kind_of r) r d.place d.meets.0.1.0 in
      let code = code_is r (kind_of r) refl (known Draft st.assignment (kind_of r) d.meets.0.1.0) in
      let m = v.plain (ap (λ (n : ℕ). eqb n 20 && ltb 0 st.file.assignments.0) (sym code) ∙ e) in
      record {
        meets = subst (Meets File w st.file ks st.assignment) (sym p) ((d.meets.0.0, (m, d.meets.0.1.1)), c.meets);
        ends = subst (λ (x : List (List ℕ)). Ends File (turns st.assignment x)) (sym p) c.ends;
        back = ap strip p ∙ kept r (with_ends (after st r) rs) (ap an_end code ∙ v.kept) ∙ ap (λ (x : List (List ℕ)). r ∷ x) c.back;
      }

  -- a 20 that ends the assignment before it
  closes_88 : (st : State) (ks r : List ℕ) (rs : List (List ℕ)) → ends_before st r ≡ true → Drafted st ks (r ∷ rs) → Closed (after (behind88 st) r) (ks ++ keys r) rs → Closed st ks (r ∷ rs)
  unfolding Meets AllHold turns gains all_keys may_follow member
  closes_88 st ks r rs e d c =
      let f = st.file in
      let a = st.assignment in
      let p = put_88 st r rs e in
      let e88 = kind_88 a in
      let k = opens_20 st r e in
      let v = in_draft a f (kind_of r) r d.place d.meets.0.1.0 in
      let code = code_is r (kind_of r) refl (known Draft a (kind_of r) d.meets.0.1.0) in
      let m = v.closes (ap (λ (x : Kind). reopens x (ltb 0 f.assignments.0)) k ∙ and_right (opens r) (ltb 0 f.assignments.0) e) in
      let t : AllHold f ks r (record20 a r) = subst (λ (x : Kind). AllHold f ks r (table_for x w a r)) k d.meets.0.1.1 in
      let fit = fits_counted f ks (gains (r ∷ rs)) (all_keys (r ∷ rs)) d.fits in
      let t' = table_20 w f (f ⊕ one_record) ks r a (gains rs) (all_keys rs) (subst (λ (x : Kind). Fits (f ⊕ one_record) ks (gain_for x r ⊕ gains rs) (keys_for x r ++ all_keys rs)) k fit) t in
      let h88 = holds_88 a f ks w (small_88 a f d.below (omega (arith, d.few)) (omega (arith, d.fits.sums))) m t.1.0 in
      let h : AllHold (f ⊕ one_record) ks r (rows File w (turn_for R88 [] a) r)
      = (d.meets.0.0, subst (λ (x : Kind). (may_follow File (turn_for R88 [] a) x ≡ true) × AllHold (f ⊕ one_record) ks r (table_for x w (turn_for R88 [] a) r)) (sym k) (refl, t')) in
      record {
        meets = subst (Meets File w f ks a) (sym p) (meets_88 w f ks a (its88 a) e88 (r ∷ with_ends (after (behind88 st) r) rs) h88 (h, c.meets));
        ends = subst (λ (x : List (List ℕ)). Ends File (turns a x)) (sym p) (subst (Ends File) (sym (turns_88 w f ks a (its88 a) e88 (r ∷ with_ends (after (behind88 st) r) rs))) c.ends);
        back = ap strip p ∙ taken_out (its88 a) _ (end_is (its88 a) R88 e88 refl) ∙ kept r _ (ap an_end code ∙ v.kept) ∙ ap (λ (x : List (List ℕ)). r ∷ x) c.back;
      }

  pub closes : (st : State) (ks : List ℕ) (rs : List (List ℕ)) → Drafted st ks rs → Closed st ks rs
  closes st ks [] d = closes_last st ks d
  closes st ks (r ∷ rs) d = go (ends_before st r) refl (closes (after st r) (ks ++ keys r) rs) (closes (after (behind88 st) r) (ks ++ keys r) rs)
    where
      go : (b : Bool) → ends_before st r ≡ b → (Drafted (after st r) (ks ++ keys r) rs → Closed (after st r) (ks ++ keys r) rs)
          → (Drafted (after (behind88 st) r) (ks ++ keys r) rs → Closed (after (behind88 st) r) (ks ++ keys r) rs) → Closed st ks (r ∷ rs)
      go true e ih ih88 = closes_88 st ks r rs e d (ih88 (drafted_88 st ks r rs e d))
      go false e ih ih88 = closes_none st ks r rs e d (ih (drafted_on st ks r rs d))
