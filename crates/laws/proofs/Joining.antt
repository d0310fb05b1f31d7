-- Demand 3 for joining, on bytes: refused exactly for a sender, a key or a limit, else accepted with its figures; three files in either order.
-- Assumes nothing.
use Prim.Native.Nat.{ℕ, ◌*◌, ◌≤◌}
use mathlib.Core.Path.{◌≡◌, refl, sym, ap, subst, ◌∙◌}
use mathlib.Core.Logic.{◌↔◌}
use mathlib.Core.List.{List, [], ◌∷◌, ◌++◌}
use mathlib.Core.Bool.{Bool}
use native.Mathlib.Omega.{arith}
use borrow.Author.Tests.{le-leb}
use lib.ListN.{length, take, drop}
use Rattle.std.specs.Prelude.{if◌then◌else◌, Some, Ok, Err}
use Rattle.dates.specs.Windows.{window_of}
use Rattle.dates.specs.declared.ProcessDay.{ProcessDay}
use Rattle.dates.specs.declared.Window.{Window}
use Rattle.figures.specs.declared.totals.Totals.{Totals}
use Rattle.limits.specs.Limits.{record_bytes}
use Rattle.rules.specs.Refusals.{refused}
use Rattle.rules.specs.Run.{records_of, check_of}
use Rattle.rules.specs.declared.Refusal.{Refusal}
use Rattle.operations.specs.Ends.{end89}
use Rattle.operations.specs.Closing.{given, on_accepted, lent_after}
use Rattle.operations.specs.Joining.{both, weigh_join, join_of, joined_file, answered_figures, joined_bytes}
use Rattle.operations.specs.Parting.{body_of}
use Rattle.laws.specs.Joinable.{BothAccepted, Joinable, NotJoinable, JoinRefusing, AddedUp, Keeps, room_for, FirstTwo, LastTwo, Associative}
use Rattle.laws.proofs.Demand2.{accepting, figures_of_records}
use Rattle.laws.proofs.Made.{View, view}
use Rattle.laws.proofs.Joins.{exclude, Outcome, joins, refuses, outcome, Answer, joined, not_joined, answer, refuses_so}
use Rattle.laws.proofs.Joined.{view_checks, view_length, view_framed, fills, joined_view, joined_records}
use Rattle.laws.proofs.Three.{associates}
use Rattle.rules.specs.Refusals.{Verdict}
use Rattle.layout.specs.declared.Reason.TheVariants.{NoRoom}

not_both : (t : Totals) (x : Refusal) → Ok t ≡ Err x → ⊥
not_both t x e = let z : ◌≡◌ {A = ℕ} 0 1 = cc in omega arith

-- ---- refused exactly
module _ (day : ProcessDay) (a b : List ℕ) (s t : Totals) (room : ℕ) (e : check_of day a ≡ Ok s) (f : check_of day b ≡ Ok t) (fits : room_for a b ≤ room) where
  its_outcome : Outcome day a b room s t (join_of day a b room)
  its_outcome = outcome day a b room s t record { first = e; second = f }

  has_room : record_bytes * (both s t).records.0 ≤ room
  has_room =
      let v = accepting day a s e in
      omega (arith, fills v.window a b s t (view day v.window a s v.opened e) (view day v.window b t v.opened f), fits)

  -- two accepted files, with room enough, are refused exactly for another sender, a key in both, or a limit
  pub join_refused_exactly : ((x : Refusal) × (join_of day a b room ≡ Err x)) ↔ NotJoinable a b s t
  join_refused_exactly = (λ v. there (join_of day a b room) its_outcome v.0 v.1, λ n. back n (join_of day a b room) its_outcome)
    where
      there : (v : Verdict) → Outcome day a b room s t v → (x : Refusal) → v ≡ Err x → NotJoinable a b s t
      there v (joins j h) x e = absurd (not_both _ x e)
      there v (refuses y r n) x e = n has_room

      back : NotJoinable a b s t → (v : Verdict) → Outcome day a b room s t v → (x : Refusal) × (v ≡ Err x)
      back n v (joins j h) = absurd (exclude a b s t j n)
      back n v (refuses x r m) = (x, refl)

  -- and joined exactly where none of these holds
  pub join_accepted_exactly : ((u : Totals) × (join_of day a b room ≡ Ok u)) ↔ Joinable a b s t
  join_accepted_exactly = (λ v. there (join_of day a b room) its_outcome v.0 v.1, λ j. back j (join_of day a b room) its_outcome)
    where
      there : (v : Verdict) → Outcome day a b room s t v → (u : Totals) → v ≡ Ok u → Joinable a b s t
      there v (joins j h) u e = j
      there v (refuses y r n) u e = absurd (not_both u y (sym e))

      back : Joinable a b s t → (v : Verdict) → Outcome day a b room s t v → (u : Totals) × (v ≡ Ok u)
      back j v (joins i h) = (both s t, refl)
      back j v (refuses x r m) = absurd (exclude a b s t j (m has_room))

-- a refusal names the first reason in the stated order: the day, the first file's own, the second file's own, then those of the two together
pub join_order : (day : ProcessDay) (a b : List ℕ) (room : ℕ) (x : Refusal) → (join_of day a b room ≡ Err x) ↔ JoinRefusing day a b room (Err x)
join_order day a b room x = (go (join_of day a b room) (answer day a b room), refuses_so day a b room (Err x))
  where
    go : (v : Verdict) → Answer day a b room v → v ≡ Err x → JoinRefusing day a b room (Err x)
    go v (joined w s t o c j h) e = absurd (not_both _ x e)
    go v (not_joined y r) e = subst (JoinRefusing day a b room) e r

-- ---- what is joined
-- two files that were joined
record Joins (day : ProcessDay) (a b : List ℕ) (room : ℕ) (u : Totals) : Type 0 where
  window : Window
  opened : window_of day ≡ Some window
  first : Totals
  second : Totals
  both_accepted : BothAccepted day a b first second
  joinable : Joinable a b first second
  fits : record_bytes * u.records.0 ≤ room
  figures : u ≡ both first second
  first_view : View window a first
  second_view : View window b second
  result : View window (joined_file a b u) u

joins_as : (day : ProcessDay) (a b : List ℕ) (room : ℕ) (u : Totals) → join_of day a b room ≡ Ok u → Joins day a b room u
joins_as day a b room u e = go (join_of day a b room) (answer day a b room) e
  where
    go : (v : Verdict) → Answer day a b room v → v ≡ Ok u → Joins day a b room u
    go v (not_joined y r) e = absurd (not_both u y (sym e))
    go v (joined w s t o c j h) e =
        let va = view day w a s o c.first in
        let vb = view day w b t o c.second in
        let q : both s t ≡ u = cc in
        record {
          window = w;
          opened = o;
          first = s;
          second = t;
          both_accepted = c;
          joinable = j;
          fits = subst (λ (x : Totals). record_bytes * x.records.0 ≤ room) q h;
          figures = sym q;
          first_view = va;
          second_view = vb;
          result = subst (λ (x : Totals). View w (joined_file a b x) x) q (joined_view w a b s t va vb j);
        }

module _ (day : ProcessDay) (a b : List ℕ) (room : ℕ) (u : Totals) (e : join_of day a b room ≡ Ok u) where
  -- the written file is accepted, with the figures that joining answers
  pub joined_accepted : check_of day (joined_file a b u) ≡ Ok u
  joined_accepted = let v = joins_as day a b room u e in view_checks v.window (joined_file a b u) u v.result day v.opened

  -- it has as many records as they say, and fits into the output
  pub joined_fits : (length (joined_file a b u) ≡ record_bytes * u.records.0) × (length (joined_file a b u) ≤ room)
  joined_fits =
      let v = joins_as day a b room u e in
      let l = view_length v.window (joined_file a b u) u v.result in
      (l, omega (arith, l, v.fits))

  -- its figures are both files' together, and those of its records
  pub joined_figures : AddedUp day a b u
  joined_figures =
      let v = joins_as day a b room u e in
      record {
        first = v.first;
        second = v.second;
        first_accepted = v.both_accepted.first;
        second_accepted = v.both_accepted.second;
        added = v.figures;
        counted = figures_of_records day (joined_file a b u) u joined_accepted;
      }

  -- its records are the first file's record 10, those of both files' assignments in order, and one 89
  pub joined_keeps : Keeps a b u
  joined_keeps =
      let v = joins_as day a b room u e in
      record {
        first = v.first;
        second = v.second;
        first_framed = view_framed v.window a v.first v.first_view;
        second_framed = view_framed v.window b v.second v.second_view;
        records =
            subst (λ (x : Totals). records_of (joined_file a b x) ≡ take record_bytes a ∷ (body_of a ++ (body_of b ++ (end89 x ∷ [])))) (sym v.figures)
            (joined_records v.window a b v.first v.second v.first_view v.second_view v.joinable);
      }

-- ---- the lent output
-- what is written lies over its start, and the bytes behind it stay
pub joined_bytes_lem : (day : ProcessDay) (a b out : List ℕ) (u : Totals) → join_of day a b (length out) ≡ Ok u
    → joined_bytes day a b out ≡ joined_file a b u ++ drop (length (joined_file a b u)) out
unfolding joined_bytes lent_after
joined_bytes_lem day a b out u e = ap (λ (v : Verdict). lent_after v (joined_file a b (answered_figures v)) out) e

-- a refusal changes nothing
pub join_refused : (day : ProcessDay) (a b out : List ℕ) (x : Refusal) → join_of day a b (length out) ≡ Err x → joined_bytes day a b out ≡ out
unfolding joined_bytes lent_after
join_refused day a b out x e = ap (λ (v : Verdict). lent_after v (joined_file a b (answered_figures v)) out) e

-- ---- the room
-- what is joined is just as long as the room that its files need
pub joined_fills : (day : ProcessDay) (a b : List ℕ) (room : ℕ) (u : Totals) → join_of day a b room ≡ Ok u → length (joined_file a b u) ≡ room_for a b
joined_fills day a b room u e =
    let v = joins_as day a b room u e in
    (joined_fits day a b room u e).0 ∙ ap (λ (x : Totals). record_bytes * x.records.0) v.figures ∙ fills v.window a b v.first v.second v.first_view v.second_view

-- more room changes nothing: any two files, and every answer
pub join_room_enough : (day : ProcessDay) (a b : List ℕ) (room : ℕ) → room_for a b ≤ room → join_of day a b room ≡ join_of day a b (room_for a b)
unfolding join_of
join_room_enough day a b room h = go (weigh_join day a b) refl
  where
    go : (v : Verdict) → weigh_join day a b ≡ v → on_accepted v (given room) ≡ on_accepted v (given (room_for a b))
    go (Err x) e = refl
    go (Ok u) e =
        let n = record_bytes * u.records.0 in
        let f : Bool → Verdict = λ x. if x then Ok u else refused NoRoom 0 0 0 in
        let j : join_of day a b n ≡ Ok u = ap (λ (x : Verdict). on_accepted x (given n)) e ∙ ap f (le-leb n n (omega arith)) in
        let q : n ≡ room_for a b = sym (joined_fits day a b n u j).0 ∙ joined_fills day a b n u j in
        ap f (le-leb n room (omega (arith, q, h)) ∙ sym (le-leb n (room_for a b) (omega (arith, q))))

-- ---- three files
-- any three files, each joining into an output that is just as long as what it joins: whichever two are joined first, they are refused alike, or else give the same figures and the same bytes
pub join_associative : (day : ProcessDay) (a b c : List ℕ) → Associative day a b c
join_associative day a b c =
    record {
      alike = λ u. (λ l. ((by_first u l).alike u).0 l, λ r. ((by_last u r).alike u).1 r);
      figures = λ u v l r. (by_first u l).figures u v l r;
      bytes = λ u v l r. (by_first u l).bytes u v l r;
    }
  where
    by_first : (u : Totals) → FirstTwo day a b c u → Associative day a b c
    by_first u l =
        let x = joins_as day a b (room_for a b) l.inner l.one in
        let y = joins_as day (joined_file a b l.inner) c (room_for (joined_file a b l.inner) c) u l.two in
        associates day x.window a b c x.first x.second y.second x.opened x.first_view x.second_view (view day x.window c y.second x.opened y.both_accepted.second)

    by_last : (u : Totals) → LastTwo day a b c u → Associative day a b c
    by_last u r =
        let x = joins_as day b c (room_for b c) r.inner r.one in
        let y = joins_as day a (joined_file b c r.inner) (room_for a (joined_file b c r.inner)) u r.two in
        associates day x.window a b c y.first x.first x.second x.opened (view day x.window a y.first x.opened y.both_accepted.first) x.first_view x.second_view
