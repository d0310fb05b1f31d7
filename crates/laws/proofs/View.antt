-- The view of demand 3: an accepted file is a record 10, whole assignments and the 89 that follows from them; and what is made so is accepted.
-- Assumes nothing.
use Rattle.std.proofs.Common.{Some, Ok}
use Prim.Native.Nat.{ℕ, ◌+◌, ◌≤◌}
use mathlib.Core.Path.{◌≡◌, refl, sym, ap, ap₂, subst, ◌∙◌}
use mathlib.Core.List.{List, [], ◌∷◌, ◌++◌}
use mathlib.Core.Bool.{true, false≢true}
use native.Mathlib.Omega.{arith}
use lib.ListN.{length, length-append}
use Rattle.dates.specs.Windows.{window_of}
use Rattle.dates.specs.declared.ProcessDay.{ProcessDay}
use Rattle.dates.specs.declared.Window.{Window}
use Rattle.figures.specs.Totals.{none, ◌⊕◌, one_record}
use Rattle.figures.specs.declared.totals.Totals.{Totals}
use Rattle.figures.proofs.Laws.{⊕-assoc, ⊕-none, none-⊕}
use Rattle.layout.specs.Rows.{AllHold}
use Rattle.rules.specs.Codes.{kind_of}
use Rattle.rules.specs.Order.{may_follow, may_end, is_end}
use Rattle.rules.specs.Layouts.{rows}
use Rattle.rules.specs.Growth.{gain_for, gain, turn_for, turn, keys_for, keys, start}
use Rattle.limits.specs.Limits.{most_records}
use Rattle.rules.specs.Run.{records_of, check_of}
use Rattle.rules.specs.declared.Assignment.{Assignment}
use Rattle.rules.specs.declared.Kind.{Kind}
use Rattle.rules.specs.declared.Kind.TheVariants.{R10, R88, R89}
use Rattle.rules.specs.declared.Mode.TheVariants.{File}
use Rattle.operations.specs.Ends.{end89}
use Rattle.operations.specs.Closing.{bytes_of}
use Rattle.laws.specs.Meets.{gains, turns, all_keys, Meets, Ends}
use Rattle.laws.specs.View.{Sized, headed, figures_of, made, Good}
use Rattle.laws.proofs.Sound.{gains_join, turns_join, meets_join, meets_split}
use Rattle.laws.proofs.Frame.{fitted}
use Rattle.laws.proofs.Demand2.{accepting, accepts}
use Rattle.laws.proofs.Types.{last_is}
use Rattle.laws.proofs.Bytes.{sized_join, sized_split, whole, whole_length, whole_bytes, record_count, records_again, bytes_again, sized_records}
use Rattle.laws.proofs.EndRecords.{Small, sized_89, kind_89, holds_89, is_89}
use Rattle.laws.proofs.Follows.{known, may_89, before_89, first_10, last_89}
use Rattle.laws.proofs.EndsPut.{gain_89, gains_records}
use Rattle.laws.proofs.Closes.{below_behind, small_89}

-- ---- the last record
-- records that end a file: an 89, and before it an 88
record LastOf (a : Assignment) (rs : List (List ℕ)) : Type 0 where
  body : List (List ℕ)
  last : List ℕ
  split : rs ≡ body ++ (last ∷ [])
  type : kind_of last ≡ R89
  before : (turns a body).last ≡ R88

last_of : (w : Window) (f : Totals) (ks : List ℕ) (a : Assignment) (r : List ℕ) (rs : List (List ℕ)) → Meets File w f ks a (r ∷ rs) → is_end (turns a (r ∷ rs)).last ≡ true
    → LastOf a (r ∷ rs)
unfolding Meets AllHold turns
last_of w f ks a r [] h e =
    let m = h.0.1.0 in
    let k = last_89 (kind_of r) (sym (ap is_end (last_is (kind_of r) r a (known File a (kind_of r) m))) ∙ e) in
    record { body = []; last = r; split = refl; type = k; before = before_89 a (subst (λ (x : Kind). may_follow File a x ≡ true) k m) }
last_of w f ks a r (q ∷ rs) h e =
    let v = last_of w (f ⊕ gain r) (ks ++ keys r) (turn r a) q rs h.1 e in
    record { body = r ∷ v.body; last = v.last; split = ap (λ (l : List (List ℕ)). r ∷ l) v.split; type = v.type; before = v.before }

-- ---- the record 10
module _ (w : Window) (r : List ℕ) (k : kind_of r ≡ R10) (rs : List (List ℕ)) where
  behind_head : none ⊕ gain r ≡ one_record
  behind_head = ap (λ (x : Kind). none ⊕ gain_for x r) k ∙ none-⊕ one_record

  met_10 : Meets File w none [] start.assignment (r ∷ rs) → Meets File w one_record [] headed rs
  unfolding Meets
  met_10 h = subst (λ (x : Kind). Meets File w one_record (keys_for x r) (turn_for x r start.assignment) rs) k (subst (λ (f : Totals). Meets File w f (keys r) (turn r start.assignment) rs) behind_head h.1)

  meets_10 : AllHold none [] r (rows File w start.assignment r) → Meets File w one_record [] headed rs → Meets File w none [] start.assignment (r ∷ rs)
  unfolding Meets
  meets_10 h m =
      (h, subst (λ (f : Totals). Meets File w f (keys r) (turn r start.assignment) rs) (sym behind_head) (subst (λ (x : Kind). Meets File w one_record (keys_for x r) (turn_for x r start.assignment) rs) (sym k) m))

  turns_10 : turns start.assignment (r ∷ rs) ≡ turns headed rs
  unfolding turns
  turns_10 = ap (λ (x : Kind). turns (turn_for x r start.assignment) rs) k

-- ---- the figures of what is made
made_gains : (head : List ℕ) (body : List (List ℕ)) → kind_of head ≡ R10 → gains (made head body) ≡ figures_of body
unfolding made gains
made_gains head body k =
    ap₂ (λ (x y : Totals). x ⊕ y) (ap (λ (x : Kind). gain_for x head) k) (gains_join body (end89 (figures_of body) ∷ []))
    ∙ ap (λ (x : Totals). one_record ⊕ (gains body ⊕ x)) (⊕-none (gain (end89 (figures_of body))) ∙ gain_89 (end89 (figures_of body)) (kind_89 (one_record ⊕ gains body)))
    ∙ sym (⊕-assoc one_record (gains body) one_record)

made_length : (head : List ℕ) (body : List (List ℕ)) → length (made head body) ≡ length body + 2
unfolding made
made_length head body = omega (arith, length-append body (end89 (figures_of body) ∷ []))

-- ---- what is accepted has a view
pub record Viewed (day : ProcessDay) (b : List ℕ) (t : Totals) : Type 0 where
  pub window : Window
  pub opened : window_of day ≡ Some window
  pub head : List ℕ
  pub body : List (List ℕ)
  pub good : Good window head body
  pub is : records_of b ≡ made head body
  pub bytes : b ≡ bytes_of (made head body)
  pub figures : t ≡ figures_of body

-- of its records
record Parts (w : Window) (rs : List (List ℕ)) : Type 0 where
  head : List ℕ
  body : List (List ℕ)
  good : Good w head body
  is : rs ≡ made head body

parts_behind : (w : Window) (head : List ℕ) (rs : List (List ℕ)) → kind_of head ≡ R10 → AllHold none [] head (rows File w start.assignment head) → length head ≡ 81 → Sized rs
    → length rs + 1 ≤ most_records → Meets File w one_record [] headed rs → is_end (turns headed rs).last ≡ true → Parts w (head ∷ rs)
unfolding turns Meets Sized made
parts_behind w head [] k h l z n m e = absurd (false≢true e)
parts_behind w head (r ∷ rs) k h l z n m e =
    let v = last_of w one_record [] headed r rs m e in
    let s = meets_split File w one_record [] headed v.body (v.last ∷ []) (subst (Meets File w one_record [] headed) v.split m) in
    let zs = sized_split v.body (v.last ∷ []) (subst Sized v.split z) in
    let i = is_89 (one_record ⊕ gains v.body) (all_keys v.body) w (turns headed v.body) v.last zs.1.0 v.type s.1.0 in
    record {
      head = head;
      body = v.body;
      good = record {
        type = k;
        head_holds = h;
        meets = s.0;
        ended = v.before;
        few = omega (arith, n, ap length v.split, length-append v.body (v.last ∷ []));
        head_sized = l;
        sized = zs.0;
      };
      is = ap (λ (l : List (List ℕ)). head ∷ l) (v.split ∙ ap (λ (q : List ℕ). v.body ++ (q ∷ [])) i);
    }

parts_of : (w : Window) (rs : List (List ℕ)) → Sized rs → length rs ≤ most_records → Meets File w none [] start.assignment rs → is_end (turns start.assignment rs).last ≡ true → Parts w rs
unfolding turns Meets AllHold Sized
parts_of w [] z n h e = absurd (false≢true e)
parts_of w (r ∷ rs) z n h e =
    let k = first_10 start.assignment (kind_of r) refl h.0.1.0 in
    parts_behind w r rs k h.0 z.0 z.1 (omega (arith, n)) (met_10 w r k rs h) (sym (ap (λ (a : Assignment). is_end a.last) (turns_10 w r k rs)) ∙ e)

pub viewed : (day : ProcessDay) (b : List ℕ) (t : Totals) → check_of day b ≡ Ok t → Viewed day b t
unfolding may_end
viewed day b t e =
    let a = accepting day b t e in
    let z = whole b a.lengthy in
    let v = parts_of a.window (records_of b) (sized_records b z) (omega (arith, record_count b, a.few)) a.ran.meets a.ran.ends.may in
    record {
      window = a.window;
      opened = a.opened;
      head = v.head;
      body = v.body;
      good = v.good;
      is = v.is;
      bytes = sym (bytes_again b z) ∙ ap bytes_of v.is;
      figures = a.ran.total ∙ none-⊕ (gains (records_of b)) ∙ ap gains v.is ∙ made_gains v.head v.body v.good.type;
    }

-- ---- and what has a view is accepted
module _ (w : Window) (head : List ℕ) (body : List (List ℕ)) (g : Good w head body) where
  pub made_sized : Sized (made head body)
  unfolding made Sized
  made_sized = (g.head_sized, sized_join body (end89 (figures_of body) ∷ []) g.sized (sized_89 (one_record ⊕ gains body), tt))

  figures_small : Small (one_record ⊕ gains body)
  figures_small =
      let fits = fitted File w one_record [] headed body (omega arith) (omega arith) g.meets in
      small_89 (turns headed body) (one_record ⊕ gains body) (below_behind headed one_record body (omega arith)) (omega (arith, gains_records body, g.few)) fits.sums

  made_meets : Meets File w none [] start.assignment (made head body)
  unfolding made Meets
  made_meets =
      let last = holds_89 (one_record ⊕ gains body) (all_keys body) w (turns headed body) figures_small (may_89 (turns headed body) g.ended) in
      meets_10 w head g.type (body ++ (end89 (figures_of body) ∷ [])) g.head_holds
      (meets_join File w one_record [] headed body (end89 (figures_of body) ∷ []) g.meets (last, tt))

  made_ends : Ends File (turns start.assignment (made head body))
  unfolding made turns may_end
  made_ends =
      let e = turns_10 w head g.type (body ++ (end89 (figures_of body) ∷ [])) ∙ turns_join headed body (end89 (figures_of body) ∷ []) in
      subst (Ends File) (sym e) (record { may = ap (λ (k : Kind). is_end (turn_for k (end89 (figures_of body)) (turns headed body)).last) (kind_89 (one_record ⊕ gains body)); gave = refl })

pub view_accepted : (day : ProcessDay) (w : Window) (head : List ℕ) (body : List (List ℕ)) → window_of day ≡ Some w → Good w head body
    → check_of day (bytes_of (made head body)) ≡ Ok (figures_of body)
view_accepted day w head body o g =
    let z = made_sized w head body g in
    let e = records_again (made head body) z in
    let n = made_length head body in
    accepts day (bytes_of (made head body)) record {
      window = w;
      opened = o;
      lengthy = whole_length (bytes_of (made head body)) (whole_bytes (made head body) z (omega (arith, n)));
      few = omega (arith, n, g.few, record_count (bytes_of (made head body)), ap length e);
      meets = subst (Meets File w none [] start.assignment) (sym e) (made_meets w head body g);
      ends = subst (λ (rs : List (List ℕ)). Ends File (turns start.assignment rs)) (sym e) (made_ends w head body g);
    }
    ∙ ap Ok (ap gains e ∙ made_gains head body g.type)
