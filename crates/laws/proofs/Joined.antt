-- Two accepted files that may be joined: the file they are joined to has a view of its own, with both bodies in one.
-- Assumes nothing.
use Rattle.std.proofs.Common.{Some, Ok}
use Prim.Native.Nat.{ℕ, ◌+◌, ◌*◌, ◌≤◌}
use mathlib.Core.Path.{◌≡◌, refl, sym, ap, ap₂, subst, ◌∙◌}
use mathlib.Core.List.{List, [], ◌∷◌, ◌++◌, append_assoc}
use native.Mathlib.Omega.{arith}
use lib.ListN.{length, take}
use Rattle.dates.specs.Windows.{window_of}
use Rattle.dates.specs.declared.ProcessDay.{ProcessDay}
use Rattle.dates.specs.declared.Window.{Window}
use Rattle.figures.specs.declared.totals.Totals.{Totals}
use Rattle.limits.specs.Limits.{record_bytes}
use Rattle.rules.specs.Run.{records_of, check_of}
use Rattle.operations.specs.Ends.{end89}
use Rattle.operations.specs.Joining.{sender, both, join_of, joined_file}
use Rattle.operations.specs.Parting.{body_of}
use Rattle.laws.specs.Meets.{all_keys}
use Rattle.laws.specs.View.{figures_of, made}
use Rattle.laws.specs.Joinable.{In, keys_of, BothAccepted, Joinable, Framed, room_for}
use Rattle.laws.proofs.Sound.{keys_join}
use Rattle.laws.proofs.EndsPut.{gains_records}
use Rattle.laws.proofs.View.{view_accepted}
use Rattle.laws.proofs.Bodies.{Together, good_join}
use Rattle.laws.proofs.Made.{file_of, View, made_records, file_counted, file_head, body_records, file_sender, file_keys, both_are, joined_is}
use Rattle.laws.proofs.Joins.{exclude, Outcome, joins, refuses, outcome}
use Rattle.rules.specs.Refusals.{Verdict}

-- ---- what a view says
module _ (w : Window) (b : List ℕ) (t : Totals) (v : View w b t) where
  pub view_checks : (day : ProcessDay) → window_of day ≡ Some w → check_of day b ≡ Ok t
  view_checks day o = ap (check_of day) v.bytes ∙ view_accepted day w v.head v.body o v.good ∙ ap Ok (sym v.figures)

  pub view_length : length b ≡ record_bytes * t.records.0
  view_length = ap length v.bytes ∙ file_counted w v.head v.body v.good ∙ ap (λ (x : Totals). record_bytes * x.records.0) (sym v.figures)

  pub view_keys : keys_of b ≡ all_keys v.body
  view_keys = ap keys_of v.bytes ∙ file_keys w v.head v.body v.good

  pub view_sender : sender b ≡ sender v.head
  view_sender = ap sender v.bytes ∙ file_sender w v.head v.body v.good

  pub view_body : body_of b ≡ v.body
  view_body = ap body_of v.bytes ∙ body_records w v.head v.body v.good

  pub view_head : take record_bytes b ≡ v.head
  view_head = ap (take record_bytes) v.bytes ∙ file_head w v.head v.body v.good

  pub view_framed : Framed b t
  unfolding made
  view_framed =
      ap records_of v.bytes ∙ made_records w v.head v.body v.good
      ∙ (λ i. sym view_head i ∷ (sym view_body i ++ (end89 (sym v.figures i) ∷ [])))

  -- a file has a 10 and an 89
  pub view_records : t.records.0 ≡ length v.body + 2
  view_records = ap (λ (x : Totals). x.records.0) v.figures ∙ omega (arith, gains_records v.body)

-- two files fill the room that they need
pub fills : (w : Window) (a b : List ℕ) (s t : Totals) → View w a s → View w b t → record_bytes * (both s t).records.0 ≡ room_for a b
fills w a b s t va vb = omega (arith, view_length w a s va, view_length w b t vb)

-- ---- two files that may be joined
-- bodies that go together, under one sender
pub joinable : (w : Window) (a b : List ℕ) (s t : Totals) (va : View w a s) (vb : View w b t) → sender va.head ≡ sender vb.head → Together va.body vb.body → Joinable a b s t
joinable w a b s t va vb e g =
    record {
      senders = view_sender w a s va ∙ e ∙ sym (view_sender w b t vb);
      apart = λ k p q. g.apart k (subst (In k) (view_keys w a s va) p) (subst (In k) (view_keys w b t vb) q);
      records = omega (arith, g.few, view_records w a s va, view_records w b t vb);
      assignments = omega (arith, g.rooms, ap (λ (x : Totals). x.assignments.0) va.figures, ap (λ (x : Totals). x.assignments.0) vb.figures);
      sums = omega (arith, g.sums, ap (λ (x : Totals). x.sum.0) va.figures, ap (λ (x : Totals). x.sum.0) vb.figures);
    }

module _ (w : Window) (a b : List ℕ) (s t : Totals) (va : View w a s) (vb : View w b t) (j : Joinable a b s t) where
  pub together : Together va.body vb.body
  together =
      record {
        apart = λ k p q. j.apart k (subst (In k) (sym (view_keys w a s va)) p) (subst (In k) (sym (view_keys w b t vb)) q);
        few = omega (arith, j.records, view_records w a s va, view_records w b t vb);
        rooms = omega (arith, j.assignments, ap (λ (x : Totals). x.assignments.0) va.figures, ap (λ (x : Totals). x.assignments.0) vb.figures);
        sums = omega (arith, j.sums, ap (λ (x : Totals). x.sum.0) va.figures, ap (λ (x : Totals). x.sum.0) vb.figures);
      }

  pub figures_joined : both s t ≡ figures_of (va.body ++ vb.body)
  figures_joined = ap₂ both va.figures vb.figures ∙ both_are va.body vb.body

  pub file_joined : joined_file a b (both s t) ≡ file_of va.head (va.body ++ vb.body)
  file_joined = (λ i. joined_file (va.bytes i) (vb.bytes i) (figures_joined i)) ∙ joined_is w va.head vb.head va.body vb.body va.good vb.good

  abbrev pub joined_view : View w (joined_file a b (both s t)) (both s t)
  joined_view =
      record {
        head = va.head;
        body = va.body ++ vb.body;
        good = good_join w va.head vb.head va.body vb.body va.good vb.good together;
        bytes = file_joined;
        figures = figures_joined;
      }

  -- the first file's sender, both files' keys
  pub joined_sender : sender (joined_file a b (both s t)) ≡ sender a
  joined_sender = view_sender w (joined_file a b (both s t)) (both s t) joined_view ∙ sym (view_sender w a s va)

  pub joined_keys : keys_of (joined_file a b (both s t)) ≡ keys_of a ++ keys_of b
  joined_keys =
      view_keys w (joined_file a b (both s t)) (both s t) joined_view ∙ keys_join va.body vb.body
      ∙ ap₂ ◌++◌ (sym (view_keys w a s va)) (sym (view_keys w b t vb))

  -- the first file's record 10, the records of both files' assignments, one 89
  pub joined_records : records_of (joined_file a b (both s t)) ≡ take record_bytes a ∷ (body_of a ++ (body_of b ++ (end89 (both s t) ∷ [])))
  joined_records =
      let c = joined_file a b (both s t) in
      let h : take record_bytes c ≡ take record_bytes a = view_head w c (both s t) joined_view ∙ sym (view_head w a s va) in
      let x : body_of c ≡ body_of a ++ body_of b = view_body w c (both s t) joined_view ∙ ap₂ ◌++◌ (sym (view_body w a s va)) (sym (view_body w b t vb)) in
      view_framed w c (both s t) joined_view
      ∙ (λ i. h i ∷ (x i ++ (end89 (both s t) ∷ [])))
      ∙ ap (λ (rs : List (List ℕ)). take record_bytes a ∷ rs) (append_assoc (body_of a) (body_of b) (end89 (both s t) ∷ []))

-- ---- accepted, and what that means
module _ (day : ProcessDay) (a b : List ℕ) (room : ℕ) (s t : Totals) (c : BothAccepted day a b s t) where
  -- of two accepted files
  pub record Accepting (u : Totals) : Type 0 where
    pub joinable : Joinable a b s t
    pub fits : record_bytes * (both s t).records.0 ≤ room
    pub figures : u ≡ both s t

  pub accepting : (u : Totals) → join_of day a b room ≡ Ok u → Accepting u
  accepting u e = go (join_of day a b room) (outcome day a b room s t c) e
    where
      go : (v : Verdict) → Outcome day a b room s t v → v ≡ Ok u → Accepting u
      go v (joins j h) e = record { joinable = j; fits = h; figures = cc }
      go v (refuses x r h) e = absurd (let z : ◌≡◌ {A = ℕ} 0 1 = cc in omega arith)

  pub accepts : Joinable a b s t → record_bytes * (both s t).records.0 ≤ room → join_of day a b room ≡ Ok (both s t)
  accepts j h = go (join_of day a b room) (outcome day a b room s t c)
    where
      go : (v : Verdict) → Outcome day a b room s t v → v ≡ Ok (both s t)
      go v (joins j h) = refl
      go v (refuses x r n) = absurd (exclude a b s t j (n h))
