-- Three accepted files joined, the first two first or the last two first: what either asks is the same, and so is what it gives.
-- Assumes nothing.
use Rattle.std.proofs.Common.{Some, Ok}
use Prim.Native.Nat.{ℕ, ◌*◌, ◌≤◌}
use mathlib.Core.Path.{◌≡◌, sym, ap, subst, ◌∙◌}
use mathlib.Core.Logic.{⊎_elim}
use mathlib.Core.List.{List, append_assoc}
use native.Mathlib.Omega.{arith}
use Rattle.dates.specs.Windows.{window_of}
use Rattle.dates.specs.declared.ProcessDay.{ProcessDay}
use Rattle.dates.specs.declared.Window.{Window}
use Rattle.figures.specs.declared.totals.Totals.{Totals}
use Rattle.limits.specs.Limits.{record_bytes}
use Rattle.rules.specs.Run.{check_of}
use Rattle.operations.specs.Joining.{both, joined_file}
use Rattle.laws.specs.View.{figures_of}
use Rattle.laws.specs.Joinable.{In, keys_of, Joinable, room_for, JoinedTo, FirstTwo, LastTwo, Associative}
use Rattle.laws.proofs.Keys.{in_join, in_left, in_right}
use Rattle.laws.proofs.Made.{file_of, View}
use Rattle.laws.proofs.Joined.{view_checks, view_records, fills, file_joined, figures_joined, joined_view, joined_sender, joined_keys, accepting, accepts}

module _ (w : Window) (a b c : List ℕ) (s t r : Totals) (va : View w a s) (vb : View w b t) (vc : View w c r) where
  -- what lets the first two be joined, and then the third
  record Left : Type 0 where
    inner : Joinable a b s t
    outer : Joinable (joined_file a b (both s t)) c (both s t) r

  record Right : Type 0 where
    inner : Joinable b c t r
    outer : Joinable a (joined_file b c (both t r)) s (both t r)

  to_right : Left → Right
  to_right l =
      let j = l.inner in
      let o = l.outer in
      let keys = joined_keys w a b s t va vb j in
      let two = view_records w a s va in
      let bc : Joinable b c t r = record {
        senders = sym j.senders ∙ sym (joined_sender w a b s t va vb j) ∙ o.senders;
        apart = λ k p q. o.apart k (subst (In k) (sym keys) (in_right k (keys_of a) (keys_of b) p)) q;
        records = omega (arith, o.records, two);
        assignments = omega (arith, o.assignments);
        sums = omega (arith, o.sums);
      } in
      record {
        inner = bc;
        outer = record {
          senders = j.senders ∙ sym (joined_sender w b c t r vb vc bc);
          apart = λ k p q.
              ⊎_elim (j.apart k p) (o.apart k (subst (In k) (sym keys) (in_left k (keys_of a) (keys_of b) p)))
              (in_join k (keys_of b) (keys_of c) (subst (In k) (joined_keys w b c t r vb vc bc) q));
          records = omega (arith, o.records, two, view_records w b t vb, view_records w c r vc);
          assignments = omega (arith, o.assignments);
          sums = omega (arith, o.sums);
        };
      }

  to_left : Right → Left
  to_left l =
      let j = l.inner in
      let o = l.outer in
      let keys = joined_keys w b c t r vb vc j in
      let two = view_records w c r vc in
      let ab : Joinable a b s t = record {
        senders = o.senders ∙ joined_sender w b c t r vb vc j;
        apart = λ k p q. o.apart k p (subst (In k) (sym keys) (in_left k (keys_of b) (keys_of c) q));
        records = omega (arith, o.records, two);
        assignments = omega (arith, o.assignments);
        sums = omega (arith, o.sums);
      } in
      record {
        inner = ab;
        outer = record {
          senders = joined_sender w a b s t va vb ab ∙ ab.senders ∙ j.senders;
          apart = λ k p q.
              ⊎_elim (λ i. o.apart k i (subst (In k) (sym keys) (in_right k (keys_of b) (keys_of c) q))) (λ i. j.apart k i q)
              (in_join k (keys_of a) (keys_of b) (subst (In k) (joined_keys w a b s t va vb ab) p));
          records = omega (arith, o.records, two, view_records w b t vb, view_records w a s va);
          assignments = omega (arith, o.assignments);
          sums = omega (arith, o.sums);
        };
      }

  -- both ways the same figures
  same_figures : Left → Right → both (both s t) r ≡ both s (both t r)
  same_figures l q =
      let ab = joined_view w a b s t va vb l.inner in
      let bc = joined_view w b c t r vb vc q.inner in
      figures_joined w (joined_file a b (both s t)) c (both s t) r ab vc l.outer
      ∙ ap figures_of (append_assoc va.body vb.body vc.body)
      ∙ sym (figures_joined w a (joined_file b c (both t r)) s (both t r) va bc q.outer)

  -- and the same bytes
  same_bytes : Left → Right → joined_file (joined_file a b (both s t)) c (both (both s t) r) ≡ joined_file a (joined_file b c (both t r)) (both s (both t r))
  same_bytes l q =
      let ab = joined_view w a b s t va vb l.inner in
      let bc = joined_view w b c t r vb vc q.inner in
      file_joined w (joined_file a b (both s t)) c (both s t) r ab vc l.outer
      ∙ ap (file_of va.head) (append_assoc va.body vb.body vc.body)
      ∙ sym (file_joined w a (joined_file b c (both t r)) s (both t r) va bc q.outer)

module _ (day : ProcessDay) (w : Window) (a b c : List ℕ) (s t r : Totals) (o : window_of day ≡ Some w) (va : View w a s) (vb : View w b t) (vc : View w c r) where
  -- the figures that each joining answers are those of what it is given
  record FirstTold (inner u : Totals) : Type 0 where
    left : Left w a b c s t r va vb vc
    inner_is : inner ≡ both s t
    outer_is : u ≡ both (both s t) r

  record LastTold (inner u : Totals) : Type 0 where
    right : Right w a b c s t r va vb vc
    inner_is : inner ≡ both t r
    outer_is : u ≡ both s (both t r)

  accepted_a : check_of day a ≡ Ok s
  accepted_a = view_checks w a s va day o

  accepted_b : check_of day b ≡ Ok t
  accepted_b = view_checks w b t vb day o

  accepted_c : check_of day c ≡ Ok r
  accepted_c = view_checks w c r vc day o

  accepted_ab : Joinable a b s t → check_of day (joined_file a b (both s t)) ≡ Ok (both s t)
  accepted_ab j = view_checks w (joined_file a b (both s t)) (both s t) (joined_view w a b s t va vb j) day o

  accepted_bc : Joinable b c t r → check_of day (joined_file b c (both t r)) ≡ Ok (both t r)
  accepted_bc j = view_checks w (joined_file b c (both t r)) (both t r) (joined_view w b c t r vb vc j) day o

  -- what is joined has room
  has_room : (a b : List ℕ) (s t : Totals) → View w a s → View w b t → record_bytes * (both s t).records.0 ≤ room_for a b
  has_room a b s t va vb = omega (arith, fills w a b s t va vb)

  first_told : (u : Totals) (l : FirstTwo day a b c u) → FirstTold l.inner u
  first_told u l =
      let x = accepting day a b (room_for a b) s t record { first = accepted_a; second = accepted_b } l.inner l.one in
      let two = subst (λ (i : Totals). JoinedTo day (joined_file a b i) c u) x.figures l.two in
      let y = accepting day (joined_file a b (both s t)) c (room_for (joined_file a b (both s t)) c) (both s t) r record { first = accepted_ab x.joinable; second = accepted_c } u two in
      record { left = record { inner = x.joinable; outer = y.joinable }; inner_is = x.figures; outer_is = y.figures }

  last_told : (u : Totals) (l : LastTwo day a b c u) → LastTold l.inner u
  last_told u l =
      let x = accepting day b c (room_for b c) t r record { first = accepted_b; second = accepted_c } l.inner l.one in
      let two = subst (λ (i : Totals). JoinedTo day a (joined_file b c i) u) x.figures l.two in
      let y = accepting day a (joined_file b c (both t r)) (room_for a (joined_file b c (both t r))) s (both t r) record { first = accepted_a; second = accepted_bc x.joinable } u two in
      record { right = record { inner = x.joinable; outer = y.joinable }; inner_is = x.figures; outer_is = y.figures }

  first_two : Left w a b c s t r va vb vc → FirstTwo day a b c (both (both s t) r)
  first_two l =
      record {
        inner = both s t;
        one = accepts day a b (room_for a b) s t record { first = accepted_a; second = accepted_b } l.inner (has_room a b s t va vb);
        two = accepts day (joined_file a b (both s t)) c (room_for (joined_file a b (both s t)) c) (both s t) r record { first = accepted_ab l.inner; second = accepted_c } l.outer (has_room (joined_file a b (both s t)) c (both s t) r (joined_view w a b s t va vb l.inner) vc);
      }

  last_two : Right w a b c s t r va vb vc → LastTwo day a b c (both s (both t r))
  last_two l =
      record {
        inner = both t r;
        one = accepts day b c (room_for b c) t r record { first = accepted_b; second = accepted_c } l.inner (has_room b c t r vb vc);
        two = accepts day a (joined_file b c (both t r)) (room_for a (joined_file b c (both t r))) s (both t r) record { first = accepted_a; second = accepted_bc l.inner } l.outer (has_room a (joined_file b c (both t r)) s (both t r) va (joined_view w b c t r vb vc l.inner));
      }

  pub associates : Associative day a b c
  associates =
      record {
        alike = λ u. (there u, back u);
        figures = λ u v l q. let x = first_told u l in let y = last_told v q in x.outer_is ∙ same_figures w a b c s t r va vb vc x.left y.right ∙ sym y.outer_is;
        bytes = λ u v l q.
            let x = first_told u l in
            let y = last_told v q in
            (λ i. joined_file (joined_file a b (x.inner_is i)) c (x.outer_is i))
            ∙ same_bytes w a b c s t r va vb vc x.left y.right
            ∙ (λ i. joined_file a (joined_file b c (sym y.inner_is i)) (sym y.outer_is i));
      }
    where
      there : (u : Totals) → FirstTwo day a b c u → LastTwo day a b c u
      there u l =
          let x = first_told u l in
          let q = to_right w a b c s t r va vb vc x.left in
          subst (LastTwo day a b c) (sym (x.outer_is ∙ same_figures w a b c s t r va vb vc x.left q)) (last_two q)

      back : (u : Totals) → LastTwo day a b c u → FirstTwo day a b c u
      back u l =
          let x = last_told u l in
          let q = to_left w a b c s t r va vb vc x.right in
          subst (FirstTwo day a b c) (same_figures w a b c s t r va vb vc q x.right ∙ sym x.outer_is) (first_two q)
