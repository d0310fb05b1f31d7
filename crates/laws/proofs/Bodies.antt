-- Bodies of whole assignments: what may follow where one ends, that a body asks nothing of the assignment before it, and two bodies as one.
-- Assumes nothing.
use Prim.Native.Nat.{ℕ, ◌+◌, ◌≤◌}
use mathlib.Core.Path.{◌≡◌, refl, sym, ap, subst, ◌∙◌}
use mathlib.Core.Logic.{⊎_elim}
use mathlib.Core.List.{List, [], ◌∷◌, ◌++◌, append-nil}
use mathlib.Core.Bool.{Bool, true, false, ◌||◌, false≢true}
use native.Mathlib.Omega.{arith}
use borrow.Author.Tests.{eq-eqb}
use lib.Dec.{eqb}
use lib.ListN.{length, length-append}
use Rattle.dates.specs.declared.Window.{Window}
use Rattle.figures.specs.Figures.{limit_wide}
use Rattle.figures.specs.Groups.{gives}
use Rattle.figures.specs.Totals.{◌⊕◌, one_record}
use Rattle.figures.specs.declared.totals.Totals.{Totals}
use Rattle.limits.specs.Limits.{most_assignments}
use Rattle.layout.specs.Rows.{member, AllHold}
use Rattle.rules.specs.Codes.{number_of_kind, kind_for, kind_of}
use Rattle.rules.specs.Order.{behind, may_follow}
use Rattle.rules.specs.Layouts.{table_for}
use Rattle.rules.specs.Growth.{gain, turn_for, turn, keys}
use Rattle.limits.specs.Limits.{most_records}
use Rattle.rules.specs.declared.Assignment.{Assignment}
use Rattle.rules.specs.declared.Kind.{Kind}
use Rattle.rules.specs.declared.Kind.TheVariants.{R10, R20, R88, R89}
use Rattle.rules.specs.declared.Mode.TheVariants.{File}
use Rattle.laws.specs.Meets.{gains, turns, all_keys, Meets}
use Rattle.laws.specs.Fits.{Fresh, Fits, NoEnd}
use Rattle.laws.specs.Joinable.{Apart}
use Rattle.laws.specs.View.{headed, Good}
use Rattle.laws.proofs.Sound.{turns_join, meets_join, meets_split}
use Rattle.laws.proofs.Frame.{frame, fitted}
use Rattle.laws.proofs.Types.{type_by, last_is}
use Rattle.laws.proofs.Follows.{known, behind_88, behind_89}
use Rattle.laws.proofs.Bytes.{sized_join, sized_split}
use Rattle.laws.proofs.Closes.{anew}
use Rattle.laws.proofs.Keys.{fresh_behind, fresh_alone, fresh_apart}

-- ---- where a body ends
-- two record types with different numbers are two
types_differ : (k j : Kind) → eqb (number_of_kind k) (number_of_kind j) ≡ false → k ≡ j → ⊥
types_differ k j d e = false≢true (sym d ∙ ap (λ (x : Kind). eqb (number_of_kind x) (number_of_kind j)) e ∙ again (number_of_kind j))
  where
    again : (n : ℕ) → eqb n n ≡ true
    again n = eq-eqb n n refl

module _ (w : Window) where
  -- nothing stands behind an 89
  over : (f : Totals) (ks : List ℕ) (a : Assignment) (rs : List (List ℕ)) → a.last ≡ R89 → Meets File w f ks a rs → (turns a rs).last ≡ R88 → ⊥
  unfolding Meets turns AllHold
  over f ks a [] e h l = types_differ R89 R88 refl (sym e ∙ l)
  over f ks a (r ∷ rs) e h l = behind_89 a (kind_of r) e h.0.1.0

  -- so records that end with an 88 have none
  pub no_end : (f : Totals) (ks : List ℕ) (a : Assignment) (rs : List (List ℕ)) → Meets File w f ks a rs → (turns a rs).last ≡ R88 → NoEnd rs
  unfolding Meets turns NoEnd
  no_end f ks a [] h l = tt
  no_end f ks a (r ∷ rs) h l = (
    (λ k. over (f ⊕ gain r) (ks ++ keys r) (turn r a) rs (ap (λ (x : Kind). (turn_for x r a).last) k) h.1 l),
    no_end (f ⊕ gain r) (ks ++ keys r) (turn r a) rs h.1 l,
  )

  -- behind an 88 the last group gave its amount
  pub gave : (f : Totals) (ks : List ℕ) (a : Assignment) (rs : List (List ℕ)) → (a.last ≡ R88 → gives a.group a.due ≡ true) → Meets File w f ks a rs
      → (turns a rs).last ≡ R88 → gives (turns a rs).group (turns a rs).due ≡ true
  unfolding Meets turns AllHold
  gave f ks a [] g h l = g l
  gave f ks a (r ∷ rs) g h l = gave (f ⊕ gain r) (ks ++ keys r) (turn r a) rs here h.1 l
    where
      here : (turn r a).last ≡ R88 → gives (turn r a).group (turn r a).due ≡ true
      here e =
          let k : kind_of r ≡ R88 = sym (last_is (kind_of r) r a (known File a (kind_of r) h.0.1.0)) ∙ e in
          let t : AllHold f ks r (table_for R88 w a r) = subst (λ (x : Kind). AllHold f ks r (table_for x w a r)) k h.0.1.1 in
          ap (λ (x : Kind). gives (turn_for x r a).group (turn_for x r a).due) k ∙ t.0

-- ---- where a body may begin: behind a 10 and behind an 88
pub record Begins (a : Assignment) : Type 0 where
  pub first : (k : Kind) → may_follow File a k ≡ true → (k ≡ R89 → ⊥) → k ≡ R20
  pub may : may_follow File a R20 ≡ true
  pub gave : gives a.group a.due ≡ true

first_20 : (k : Kind) → may_follow File headed k ≡ true → k ≡ R20
unfolding may_follow member kind_for
first_20 k m = go (eqb (number_of_kind k) 20) refl m
  where
    go : (x : Bool) → eqb (number_of_kind k) 20 ≡ x → x || false ≡ true → k ≡ R20
    go true p h = type_by k 20 p
    go false p h = absurd (false≢true h)

pub behind_head : Begins headed
unfolding may_follow member gives
behind_head = record { first = λ k m e. first_20 k m; may = refl; gave = refl }

pub behind_body : (a : Assignment) → a.last ≡ R88 → gives a.group a.due ≡ true → Begins a
unfolding may_follow member
behind_body a e g =
    record {
      first = λ k m n. ⊎_elim (λ p. p) (λ p. absurd (n p)) (behind_88 a k e m);
      may = ap (λ (l : Kind). member 20 (behind File l a.service a.code)) e;
      gave = g;
    }

-- a body meets the rules behind either alike, and leaves the same
module _ (w : Window) (f : Totals) (ks : List ℕ) (a a' : Assignment) (p : Begins a) (p' : Begins a') (r : List ℕ) (rs : List (List ℕ)) (n : NoEnd (r ∷ rs))
    (h : Meets File w f ks a (r ∷ rs)) where
  opens_20 : kind_of r ≡ R20
  unfolding Meets AllHold NoEnd
  opens_20 = p.first (kind_of r) h.0.1.0 n.0

  pub same_turns : turns a (r ∷ rs) ≡ turns a' (r ∷ rs)
  unfolding turns
  same_turns = ap (λ (x : Assignment). turns x rs) (anew a a' r opens_20)

  pub meets_anywhere : Meets File w f ks a' (r ∷ rs)
  unfolding Meets AllHold
  meets_anywhere =
      let t : AllHold f ks r (table_for R20 w a r) = subst (λ (x : Kind). AllHold f ks r (table_for x w a r)) opens_20 h.0.1.1 in
      let t' : AllHold f ks r (table_for R20 w a' r) = (t.0, (p'.gave, t.1.1)) in
      let m : may_follow File a' (kind_of r) ≡ true = ap (may_follow File a') opens_20 ∙ p'.may in (
        (h.0.0, (m, subst (λ (x : Kind). AllHold f ks r (table_for x w a' r)) (sym opens_20) t')),
        subst (λ (x : Assignment). Meets File w (f ⊕ gain r) (ks ++ keys r) x rs) (anew a a' r opens_20) h.1,
      )

-- ---- two bodies as one
-- what two bodies have to meet
pub record Together (x y : List (List ℕ)) : Type 0 where
  pub apart : Apart (all_keys x) (all_keys y)
  pub few : length x + length y + 2 ≤ most_records
  pub rooms : (gains x).assignments.0 + (gains y).assignments.0 ≤ most_assignments
  pub sums : (gains x).sum.0 + (gains y).sum.0 ≤ limit_wide.0

module _ (w : Window) (head : List ℕ) where
  -- where a good body ends, another may begin
  pub behind_good : (x : List (List ℕ)) → Meets File w one_record [] headed x → (turns headed x).last ≡ R88 → Begins (turns headed x)
  behind_good x m e = behind_body (turns headed x) e (gave w one_record [] headed x (λ l. absurd (types_differ R10 R88 refl l)) m e)

  pub good_join : (head' : List ℕ) (x y : List (List ℕ)) → Good w head x → Good w head' y → Together x y → Good w head (x ++ y)
  unfolding turns
  good_join head' x [] g g' t = absurd (types_differ R10 R88 refl g'.ended)
  good_join head' x (r ∷ rs) g g' t =
      let y = r ∷ rs in
      let n = no_end w one_record [] headed y g'.meets g'.ended in
      let own = fitted File w one_record [] headed y (omega arith) (omega arith) g'.meets in
      let fit : Fits (one_record ⊕ gains x) (all_keys x) (gains y) (all_keys y) = record {
        sums = omega (arith, t.sums);
        rooms = omega (arith, t.rooms);
        news = rw append-nil at (fresh_behind (all_keys x) [] (all_keys y) t.apart own.news);
      } in
      let m = frame File w one_record (one_record ⊕ gains x) [] (all_keys x) headed y n fit g'.meets in
      let b = behind_good x g.meets g.ended in
      record {
        type = g.type;
        head_holds = g.head_holds;
        meets = meets_join File w one_record [] headed x y g.meets (meets_anywhere w (one_record ⊕ gains x) (all_keys x) headed (turns headed x) behind_head b r rs n m);
        ended = ap (λ (a : Assignment). a.last) (turns_join headed x y ∙ sym (same_turns w one_record [] headed (turns headed x) behind_head b r rs n g'.meets)) ∙ g'.ended;
        few = omega (arith, t.few, length-append x y);
        head_sized = g.head_sized;
        sized = sized_join x y g.sized g'.sized;
      }

  -- and one body, cut behind an 88, as two
  pub record Cut (x y : List (List ℕ)) : Type 0 where
    pub front : Good w head x
    pub back : Good w head y
    pub together : Together x y

  pub good_cut : (x : List (List ℕ)) (r : List ℕ) (rs : List (List ℕ)) → Good w head (x ++ (r ∷ rs)) → (turns headed x).last ≡ R88 → Cut x (r ∷ rs)
  good_cut x r rs g e =
      let y = r ∷ rs in
      let s = meets_split File w one_record [] headed x y g.meets in
      let z = sized_split x y g.sized in
      let l = length-append x y in
      let fx = fitted File w one_record [] headed x (omega arith) (omega arith) s.0 in
      let fy = fitted File w (one_record ⊕ gains x) (all_keys x) (turns headed x) y (omega (arith, fx.sums)) (omega (arith, fx.rooms)) s.1 in
      let q : (turns (turns headed x) y).last ≡ R88 = sym (ap (λ (a : Assignment). a.last) (turns_join headed x y)) ∙ g.ended in
      let n = no_end w (one_record ⊕ gains x) (all_keys x) (turns headed x) y s.1 q in
      let b = behind_good x s.0 e in
      let news : Fresh (all_keys x ++ []) (all_keys y) = rw append-nil fy.news in
      let fit : Fits one_record [] (gains y) (all_keys y) = record { sums = omega (arith, fy.sums); rooms = omega (arith, fy.rooms); news = fresh_alone (all_keys x) [] (all_keys y) news } in
      let m = frame File w (one_record ⊕ gains x) one_record (all_keys x) [] (turns headed x) y n fit s.1 in
      record {
        front = record { type = g.type; head_holds = g.head_holds; meets = s.0; ended = e; few = omega (arith, g.few, l); head_sized = g.head_sized; sized = z.0 };
        back = record {
          type = g.type;
          head_holds = g.head_holds;
          meets = meets_anywhere w one_record [] (turns headed x) headed b behind_head r rs n m;
          ended = sym (ap (λ (a : Assignment). a.last) (same_turns w one_record [] (turns headed x) headed b behind_head r rs n m)) ∙ q;
          few = omega (arith, g.few, l);
          head_sized = g.head_sized;
          sized = z.1;
        };
        together = record { apart = fresh_apart (all_keys x) [] (all_keys y) news; few = omega (arith, g.few, l); rooms = omega (arith, fy.rooms); sums = omega (arith, fy.sums) };
      }
