-- A file that meets the rules, its end records taken out, is a draft that meets them, and closing puts the same end records back.
-- Assumes nothing.
use Prim.Native.Nat.{ℕ}
use mathlib.Core.Path.{◌≡◌, refl, sym, ap, subst, ◌∙◌}
use mathlib.Core.Logic.{◌⊎◌, inl, inr}
use mathlib.Core.List.{List, [], ◌∷◌, ◌++◌}
use mathlib.Core.Bool.{Bool, true, false, ◌&&◌, false≢true}
use native.Mathlib.Nat.{add-zero}
use native.Mathlib.Omega.{arith}
use lib.Dec.{eqb, ltb}
use Rattle.fields.proofs.Tests.{and_both}
use Rattle.dates.specs.declared.Window.{Window}
use Rattle.figures.specs.Groups.{gives}
use Rattle.figures.specs.Totals.{◌⊕◌, one_record}
use Rattle.layout.specs.Rows.{AllHold}
use Rattle.rules.specs.Codes.{record_code, kind_for, kind_of, number_of_kind}
use Rattle.rules.specs.Order.{may_follow, may_end}
use Rattle.rules.specs.Layouts.{rows, table_for}
use Rattle.rules.specs.Growth.{gain_for, gain, turn_for, turn, keys_for, keys, after}
use Rattle.rules.specs.declared.Assignment.{Assignment}
use Rattle.rules.specs.declared.Kind.{Kind}
use Rattle.rules.specs.declared.Kind.TheVariants.{R20, R88, R89}
use Rattle.rules.specs.declared.Mode.TheVariants.{File, Draft}
use Rattle.rules.specs.declared.State.{State}
use Rattle.operations.specs.Closing.{opens, behind88, with_ends}
use Rattle.laws.specs.Meets.{gains, turns, all_keys, Meets, Ends}
use Rattle.laws.specs.Fits.{Fits}
use Rattle.laws.specs.View.{Sized}
use Rattle.laws.specs.Stripped.{an_end, strip}
use Rattle.laws.proofs.Frame.{fits_on, fitted}
use Rattle.laws.proofs.Types.{type_of, code_is, end_is}
use Rattle.laws.proofs.EndRecords.{its88, is_88, is_89}
use Rattle.laws.proofs.Follows.{Stands, in_draft, known, in_file, at_88, no_89, no_end, behind_88, behind_89}
use Rattle.laws.proofs.EndsPut.{put_none, put_88, put_last, kept, taken_out}
use Rattle.laws.proofs.Closes.{met_88, turns_88, table_20, anew, fits_counted, recounted}

-- a state, or the state behind an 88 there, with what was put before
abbrev pub put : Bool → State → State
put true st = behind88 st
put false st = st

abbrev pub lead : Bool → State → List (List ℕ)
lead true st = its88 st.assignment ∷ []
lead false st = []

module _ (w : Window) where
  -- a file under way
  pub record Filed (b : Bool) (st : State) (ks : List ℕ) (rs : List (List ℕ)) : Type 0 where
    pub place : Stands st.assignment st.file
    pub whole : b ≡ true → (may_follow File st.assignment R88 ≡ true) × (gives st.assignment.group st.assignment.due ≡ true)
    pub sized : Sized rs
    pub fits : Fits st.file ks (gains rs) (all_keys rs)
    pub meets : Meets File w (put b st).file ks (put b st).assignment rs
    pub ends : Ends File (turns (put b st).assignment rs)

  -- what taking its ends out gives
  pub record Stripped (b : Bool) (st : State) (ks : List ℕ) (rs : List (List ℕ)) : Type 0 where
    pub same : with_ends st (strip rs) ≡ lead b st ++ rs
    pub meets : Meets Draft w st.file ks st.assignment (strip rs)
    pub ends : Ends Draft (turns st.assignment (strip rs))

  abbrev Rest : List (List ℕ) → Type 0
  Rest rs = (b : Bool) (st : State) (ks : List ℕ) → Filed b st ks rs → Stripped b st ks rs

  -- a record that the draft has too
  strips_plain : (st : State) (ks r : List ℕ) (rs : List (List ℕ)) → an_end (record_code r) ≡ false → Filed false st ks (r ∷ rs) → Rest rs → Stripped false st ks (r ∷ rs)
  unfolding Meets AllHold Sized turns gains all_keys
  strips_plain st ks r rs e d ih =
      let f = st.file in
      let a = st.assignment in
      let m = d.meets.0.1.0 in
      let code = code_is r (kind_of r) refl (known File a (kind_of r) m) in
      let v = in_file a f (kind_of r) d.place m (ap an_end (sym code) ∙ e) in
      let s = kept r rs e in
      let p = put_none st r (strip rs) (ap (λ (n : ℕ). eqb n 20 && ltb 0 f.assignments.0) code ∙ v.plain) in
      let x = ih false (after st r) (ks ++ keys r) record {
        place = (in_draft a f (kind_of r) r d.place v.draft).on;
        whole = λ z. absurd (false≢true z);
        sized = d.sized.1;
        fits = fits_on (kind_of r) r f ks (gains rs) (all_keys rs) d.fits;
        meets = d.meets.1;
        ends = d.ends;
      } in
      record {
        same = ap (with_ends st) s ∙ p ∙ ap (λ (l : List (List ℕ)). r ∷ l) x.same;
        meets = subst (Meets Draft w f ks a) (sym s) ((d.meets.0.0, (v.draft, d.meets.0.1.1)), x.meets);
        ends = subst (λ (l : List (List ℕ)). Ends Draft (turns a l)) (sym s) x.ends;
      }

  -- an 88
  strips_88 : (st : State) (ks r : List ℕ) (rs : List (List ℕ)) → kind_of r ≡ R88 → Filed false st ks (r ∷ rs) → Rest rs → Stripped false st ks (r ∷ rs)
  unfolding Meets Sized gains all_keys
  strips_88 st ks r rs e d ih =
      let f = st.file in
      let a = st.assignment in
      let v = is_88 a f ks w r d.sized.0 e d.meets.0 in
      let s = taken_out r rs (end_is r R88 e refl) in
      let fit = subst (λ (k : Kind). Fits f ks (gain_for k r ⊕ gains rs) (keys_for k r ++ all_keys rs)) e d.fits in
      let x = ih true st ks record {
        place = d.place;
        whole = λ z. (v.may, v.gave);
        sized = d.sized.1;
        fits = record { sums = omega (arith, fit.sums); rooms = omega (arith, fit.rooms); news = fit.news };
        meets = met_88 w f ks a r e rs d.meets;
        ends = subst (Ends File) (turns_88 w f ks a r e rs) d.ends;
      } in
      record {
        same = ap (with_ends st) s ∙ x.same ∙ ap (λ (q : List ℕ). q ∷ rs) (sym v.is);
        meets = subst (Meets Draft w f ks a) (sym s) x.meets;
        ends = subst (λ (l : List (List ℕ)). Ends Draft (turns a l)) (sym s) x.ends;
      }

  -- a 20 behind it
  strips_20 : (st : State) (ks r : List ℕ) (rs : List (List ℕ)) → kind_of r ≡ R20 → Filed true st ks (r ∷ rs) → Rest rs → Stripped true st ks (r ∷ rs)
  unfolding Meets AllHold Sized turns gains all_keys
  strips_20 st ks r rs e d ih =
      let f = st.file in
      let a = st.assignment in
      let f' = f ⊕ one_record in
      let a' = turn_for R88 [] a in
      let v = at_88 a f d.place (d.whole refl).0 in
      let m : may_follow Draft a (kind_of r) ≡ true = subst (λ (k : Kind). may_follow Draft a k ≡ true) (sym e) v.1 in
      let u = in_draft a f (kind_of r) r d.place m in
      let code = code_is r (kind_of r) refl (known Draft a (kind_of r) m) in
      let s = kept r rs (ap an_end code ∙ u.kept) in
      let p = put_88 st r (strip rs) (and_both (opens r) (ltb 0 f.assignments.0) (ap (λ (n : ℕ). eqb n 20) code ∙ ap (λ (k : Kind). eqb (number_of_kind k) 20) e) v.0) in
      let place : Stands (turn r a') (f' ⊕ gain r) = rw (add-zero f.assignments.0) (subst (λ (z : Assignment). Stands z (f ⊕ gain r)) (anew a a' r e) u.on) in
      let fits = fits_on (kind_of r) r f' ks (gains rs) (all_keys rs) (fits_counted f ks (gains (r ∷ rs)) (all_keys (r ∷ rs)) d.fits) in
      let x = ih false (after (behind88 st) r) (ks ++ keys r) record {
        place = place;
        whole = λ z. absurd (false≢true z);
        sized = d.sized.1;
        fits = fits;
        meets = d.meets.1;
        ends = d.ends;
      } in
      let table = subst (λ (k : Kind). AllHold f' ks r (table_for k w a' r)) e d.meets.0.1.1 in
      let room = subst (λ (k : Kind). Fits f ks (gain_for k r ⊕ gains rs) (keys_for k r ++ all_keys rs)) e d.fits in
      let own : AllHold f ks r (rows Draft w a r)
      = (d.meets.0.0, (m, subst (λ (k : Kind). AllHold f ks r (table_for k w a r)) (sym e) (table_20 w f' f ks r a (gains rs) (all_keys rs) room table))) in
      let fitted-rest = fitted Draft w (f' ⊕ gain r) (ks ++ keys r) (turn r a') (strip rs) (omega (arith, fits.sums)) (omega (arith, fits.rooms)) x.meets in
      let rest = recounted w (f' ⊕ gain r) (f ⊕ gain r) (ks ++ keys r) (turn r a') (strip rs) (omega arith) (omega arith) place fitted-rest x.meets in
      record {
        same = ap (with_ends st) s ∙ p ∙ ap (λ (l : List (List ℕ)). its88 a ∷ r ∷ l) x.same;
        meets = subst (Meets Draft w f ks a) (sym s) (own, subst (λ (z : Assignment). Meets Draft w (f ⊕ gain r) (ks ++ keys r) z (strip rs)) (anew a' a r e) rest);
        ends = subst (λ (l : List (List ℕ)). Ends Draft (turns a l)) (sym s) (subst (λ (z : Assignment). Ends Draft (turns z (strip rs))) (anew a' a r e) x.ends);
      }

  -- the 89 behind it
  strips_89 : (st : State) (ks r : List ℕ) (rs : List (List ℕ)) → kind_of r ≡ R89 → Filed true st ks (r ∷ rs) → Stripped true st ks (r ∷ rs)
  unfolding Meets AllHold Sized turns strip may_end
  strips_89 st ks r [] e d =
      let f = st.file in
      let a = st.assignment in
      let v = is_89 (f ⊕ one_record) ks w (turn_for R88 [] a) r d.sized.0 e d.meets.0 in
      let s = taken_out r [] (end_is r R89 e refl) in
      record {
        same = ap (with_ends st) s ∙ put_last st ∙ ap (λ (q : List ℕ). its88 a ∷ q ∷ []) (sym v);
        meets = subst (Meets Draft w f ks a) (sym s) tt;
        ends = subst (λ (l : List (List ℕ)). Ends Draft (turns a l)) (sym s) (record { may = (d.whole refl).0; gave = (d.whole refl).1 });
      }
  strips_89 st ks r (q ∷ rs) e d =
      absurd (behind_89 (turn r (turn_for R88 [] st.assignment)) (kind_of q) (ap (λ (k : Kind). (turn_for k r (turn_for R88 [] st.assignment)).last) e) d.meets.1.0.1.0)

  pub strips : (b : Bool) (st : State) (ks : List ℕ) (rs : List (List ℕ)) → Filed b st ks rs → Stripped b st ks rs
  unfolding Meets AllHold turns may_end kind_for
  strips false st ks [] d = absurd (no_end st.assignment st.file d.place d.ends.may)
  strips true st ks [] d = absurd (false≢true d.ends.may)
  strips false st ks (r ∷ rs) d = go (an_end (record_code r)) refl (λ b s l. strips b s l rs)
    where
      go : (b : Bool) → an_end (record_code r) ≡ b → Rest rs → Stripped false st ks (r ∷ rs)
      go false e ih = strips_plain st ks r rs e d ih
      go true e ih = which (eqb (record_code r) 88) refl
        where
          which : (c : Bool) → eqb (record_code r) 88 ≡ c → Stripped false st ks (r ∷ rs)
          which true q = strips_88 st ks r rs (type_of (record_code r) 88 q) d ih
          which false q =
              let k : kind_of r ≡ R89 = type_of (record_code r) 89 (rw q at e) in
              absurd (no_89 st.assignment st.file d.place (subst (λ (x : Kind). may_follow File st.assignment x ≡ true) k d.meets.0.1.0))
  strips true st ks (r ∷ rs) d = go (behind_88 (turn_for R88 [] st.assignment) (kind_of r) refl d.meets.0.1.0) (λ b s l. strips b s l rs)
    where
      go : (kind_of r ≡ R20) ⊎ (kind_of r ≡ R89) → Rest rs → Stripped true st ks (r ∷ rs)
      go (inl e) ih = strips_20 st ks r rs e d ih
      go (inr e) ih = strips_89 st ks r rs e d
