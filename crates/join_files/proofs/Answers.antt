-- What joining answers, in the order of its refusals, and what it leaves in the output.
-- Assumes nothing.
use Prim.Native.Nat.{ℕ, ◌+◌, ◌*◌, ◌≤◌}
use mathlib.Core.Path.{◌≡◌, sym, ap, ap₂, subst, ◌∙◌}
use mathlib.Core.List.{List, [], ◌∷◌, ◌++◌}
use mathlib.Core.Bool.{Bool, true, false}
use native.Mathlib.Omega.{arith}
use lib.Dec.{eqb}
use lib.ListN.{length, drop, length-append}
use Rattle.std.specs.Prelude.{if◌then◌else◌, Option, Some, None, Ok, Err}
use Rattle.std.specs.Result.{MatchResult, IsErrAnd}
use Rattle.std.proofs.lemmas.Result.{err_from_is_err_and}
use Rattle.dates.specs.Dates.{date}
use Rattle.dates.specs.Windows.{window_of}
use Rattle.dates.specs.declared.ProcessDay.{ProcessDay}
use Rattle.dates.specs.declared.Window.{Window}
use Rattle.figures.specs.Totals.{none, one_record, ◌⊕◌}
use Rattle.figures.specs.declared.totals.Totals.{Totals}
use Rattle.laws.specs.Meets.{Meets}
use Rattle.laws.specs.Plain.{of_type}
use Rattle.laws.specs.View.{headed}
use Rattle.laws.proofs.Bytes.{record_count}
use Rattle.laws.proofs.Demand2.{accepting, figures_of_records}
use Rattle.laws.proofs.Frame.{fitted}
use Rattle.laws.proofs.Joining.{joined_fits, joined_figures, joined_bytes_lem, join_refused}
use Rattle.laws.proofs.Slices.{body_in, body_is, long_enough}
use Rattle.laws.proofs.View.{viewed}
use Rattle.limits.specs.Limits.{record_bytes, most_records, most_assignments, most_of_all}
use Rattle.layout.specs.Rows.{AllHold}
use Rattle.operations.specs.Ends.{end89}
use Rattle.operations.specs.Closing.{given, on_accepted}
use Rattle.operations.specs.Joining.{sender, of_operand, weigh_both, weigh_second, weigh_join, join_of, without_end, joined_file}
use Rattle.operations.specs.Promises.{JoinPromise}
use Rattle.rules.specs.Codes.{record_code}
use Rattle.rules.specs.Growth.{start, gain, turn, keys, all_keys}
use Rattle.rules.specs.Layouts.{table_for, rows, record20}
use Rattle.rules.specs.Refusals.{refusal}
use Rattle.rules.specs.Run.{records_of, judge, on_window, check_of}
use Rattle.rules.specs.declared.Assignment.{Assignment}
use Rattle.rules.specs.declared.Kind.{Kind}
use Rattle.rules.specs.declared.Mode.{Mode}
use Rattle.rules.specs.declared.Mode.TheVariants.{File}
use Rattle.rules.specs.declared.Refusal.{Refusal}
use Rattle.rules.proofs.Codes.{twenty}
use Rattle.write_file.proofs.Ends.{end_length}
use Rattle.join_pairs.specs.Pairs.{KeyReadable, KeysReadable, Judged}
use Rattle.join_files.specs.Days.{OnDay}
use Rattle.rules.specs.Refusals.{Verdict}
use Rattle.layout.specs.declared.Reason.TheVariants.{NoProcessDay}

-- ---- an accepted file has its keys, and figures that can be added
readable : (m : Mode) (w : Window) (f : Totals) (ks : List ℕ) (a : Assignment) (r : List ℕ) → AllHold f ks r (rows m w a r) → KeyReadable r
unfolding AllHold
readable m w f ks a r h = record { agreement = λ e. (opening e).1.1.1.1.1.0; number = λ e. (opening e).1.1.1.1.1.1.0 }
  where
    opening : record_code r ≡ 20 → AllHold f ks r (record20 a r)
    opening e = subst (λ (k : Kind). AllHold f ks r (table_for k w a r)) (twenty (record_code r) e) h.1.1

all_readable : (m : Mode) (w : Window) (f : Totals) (ks : List ℕ) (a : Assignment) (rs : List (List ℕ)) → Meets m w f ks a rs → KeysReadable rs
unfolding Meets KeysReadable
all_readable m w f ks a [] h = tt
all_readable m w f ks a (r ∷ rs) h = (readable m w f ks a r h.0, all_readable m w (f ⊕ gain r) (ks ++ keys r) (turn r a) rs h.1)

few_of_type : (n : ℕ) (rs : List (List ℕ)) → length (of_type n rs) ≤ length rs
unfolding of_type
few_of_type n [] = omega arith
few_of_type n (r ∷ rs) = go (eqb (record_code r) n) (few_of_type n rs)
  where
    go : (b : Bool) → length (of_type n rs) ≤ length rs → length (if b then (r ∷ of_type n rs) else of_type n rs) ≤ length (r ∷ rs)
    go true h = omega arith
    go false h = omega arith

checked : (w : Window) (o : OnDay w) (b : List ℕ) (v : Verdict) → judge w b ≡ v → check_of o.day b ≡ v
unfolding check_of
checked w o b v e = ap (λ (x : Option Window). on_window x (λ w. judge w b)) o.opened ∙ e

module _ (w : Window) (o : OnDay w) (b : List ℕ) (t : Totals) (e : judge w b ≡ Ok t) where
  pub few_keys : t.assignments.0 ≤ most_assignments
  few_keys =
      let c = checked w o b (Ok t) e in
      let v = viewed o.day b t c in
      let s = fitted File v.window one_record [] headed v.body (omega arith) (omega arith) v.good.meets in
      omega (arith, s.rooms, ap (λ (x : Totals). x.assignments.0) v.figures)

  pub is_judged : (ks : List ℕ) → ks ≡ all_keys (records_of b) → Judged b t ks
  is_judged ks same =
      let c = checked w o b (Ok t) e in
      let v = viewed o.day b t c in
      let a = accepting o.day b t c in
      let f = figures_of_records o.day b t c in
      let s = fitted File v.window one_record [] headed v.body (omega arith) (omega arith) v.good.meets in
      let r : t.records.0 ≤ most_records = omega (arith, f.records, record_count b, a.few) in
      let g = few_keys in
      let n : t.transactions.0 ≤ most_records = omega (arith, f.transactions, few_of_type 30 (records_of b), f.records, r) in
      let m : t.sum.0 ≤ most_of_all = omega (arith, s.sums, ap (λ (x : Totals). x.sum.0) v.figures) in
      record {
        countable = record { bounded = record { assignments = omega arith; transactions = n; records = r; sum = m }; ends = omega (arith, f.records, record_count b, long_enough o.day b t c) };
        long = long_enough o.day b t c;
        readable = all_readable File a.window none [] start.assignment (records_of b) a.ran.meets;
        keys = same;
      }

-- ---- a verdict whose refusal was changed on the way
module _ (P : Refusal → Refusal → Type 0) (v u : Verdict) (m : MatchResult v (λ t. u ≡ Ok t) (λ x. IsErrAnd u (P x))) where
  pub accepted_before : (t : Totals) → u ≡ Ok t → v ≡ Ok t
  accepted_before t q = go v m
    where
      go : (v : Verdict) → MatchResult v (λ t. u ≡ Ok t) (λ x. IsErrAnd u (P x)) → v ≡ Ok t
      go (Ok s) e = ap Ok (let i : ◌≡◌ {A = Verdict} (Ok s) (Ok t) = sym e ∙ q in cc)
      go (Err x) e = let p = err_from_is_err_and u e in absurd (let i : ◌≡◌ {A = Verdict} (Err p.0) (Ok t) = sym p.1 ∙ q in cc)

-- ---- all that is judged before the output is looked at
refused_of : (n : ℕ) (v : Verdict) (f : Totals → Verdict) (x : Refusal) → of_operand n v Ok ≡ Err x → of_operand n v f ≡ Err x
refused_of n (Ok t) f x e = absurd cc
refused_of n (Err y) f x e = e

pub accepted_of : (n : ℕ) (v : Verdict) (t : Totals) → of_operand n v Ok ≡ Ok t → v ≡ Ok t
accepted_of n (Ok s) t e = e
accepted_of n (Err y) t e = absurd cc

module _ (day : ProcessDay) (a b : List ℕ) where
  on_day : (o : Option Window) → window_of day ≡ o → on_window o (λ w. of_operand 1 (judge w a) (λ s. weigh_second w a s b)) ≡ weigh_join day a b
  unfolding weigh_join
  on_day o e = ap (λ (x : Option Window). on_window x (λ w. of_operand 1 (judge w a) (λ s. weigh_second w a s b))) (sym e)

  pub no_day : (x : Refusal) → x ≡ refusal NoProcessDay 0 0 0 → window_of day ≡ None → Err x ≡ weigh_join day a b
  no_day x q e = ap Err q ∙ on_day None e

  module _ (w : Window) (e : window_of day ≡ Some w) where
    pub first_refused : (x : Refusal) → of_operand 1 (judge w a) Ok ≡ Err x → Err x ≡ weigh_join day a b
    first_refused x i = sym (refused_of 1 (judge w a) (λ s. weigh_second w a s b) x i) ∙ on_day (Some w) e

    module _ (s : Totals) (i : of_operand 1 (judge w a) Ok ≡ Ok s) where
      on_first : weigh_second w a s b ≡ weigh_join day a b
      on_first = ap (λ (y : Verdict). of_operand 1 y (λ s. weigh_second w a s b)) (sym (accepted_of 1 (judge w a) s i)) ∙ on_day (Some w) e

      abbrev both : Totals → Verdict
      both t = weigh_both (sender a) (all_keys (records_of a)) s (sender b) (records_of b) t

      pub second_refused : (x : Refusal) → of_operand 2 (judge w b) Ok ≡ Err x → Err x ≡ weigh_join day a b
      unfolding weigh_second
      second_refused x j = sym (refused_of 2 (judge w b) both x j) ∙ on_first

      pub both_weighed : (t : Totals) → of_operand 2 (judge w b) Ok ≡ Ok t → both t ≡ weigh_join day a b
      unfolding weigh_second
      both_weighed t j = ap (λ (y : Verdict). of_operand 2 y both) (sym (accepted_of 2 (judge w b) t j)) ∙ on_first

-- ---- the answer, and the output after it
module _ (day : ProcessDay) (a b out : List ℕ) where
  leaves : (x : Refusal) → Err x ≡ join_of day a b (length out) → JoinPromise day a b out (Err x) out
  leaves x e = record { answers = e; leaves = sym (join_refused day a b out x (sym e)) }

  by_weight : (v : Verdict) → v ≡ weigh_join day a b → on_accepted v (given (length out)) ≡ join_of day a b (length out)
  unfolding join_of
  by_weight v e = ap (λ (y : Verdict). on_accepted y (given (length out))) e

  pub not_weighed : (x : Refusal) → Err x ≡ weigh_join day a b → JoinPromise day a b out (Err x) out
  not_weighed x e = leaves x (by_weight (Err x) e)

  module _ (t : Totals) (e : Ok t ≡ weigh_join day a b) where
    pub no_room : (x : Refusal) → Err x ≡ given (length out) t → JoinPromise day a b out (Err x) out
    no_room x q = leaves x (q ∙ by_weight (Ok t) e)

    module _ (s : Totals) (q : given (length out) t ≡ Ok s) where
      joins : join_of day a b (length out) ≡ Ok s
      joins = sym (by_weight (Ok t) e) ∙ q

      pub first_long : 2 * record_bytes ≤ length a
      first_long = let f = joined_figures day a b (length out) s joins in long_enough day a f.first f.first_accepted

      pub second_long : 2 * record_bytes ≤ length b
      second_long = let f = joined_figures day a b (length out) s joins in long_enough day b f.second f.second_accepted

      joined_is : without_end a ++ (body_in b ++ end89 s) ≡ joined_file a b s
      unfolding joined_file
      joined_is = ap (λ (x : List ℕ). without_end a ++ (x ++ end89 s)) (body_is b)

      joined_long : length (without_end a) + length (body_in b) + record_bytes ≡ length (joined_file a b s)
      joined_long = sym (sym (ap length joined_is) ∙ length-append (without_end a) (body_in b ++ end89 s) ∙ omega (arith, length-append (body_in b) (end89 s), end_length 0 89 s (date 0)))

      pub has_room : length (without_end a) + length (body_in b) + record_bytes ≤ length out
      has_room = omega (arith, joined_long, (joined_fits day a b (length out) s joins).1)

      pub wrote : (after : List ℕ) → after ≡ (without_end a ++ (body_in b ++ end89 s)) ++ drop (length (without_end a) + length (body_in b) + record_bytes) out → JoinPromise day a b out (Ok s) after
      wrote after r = record { answers = sym joins; leaves = r ∙ ap₂ (λ (x : List ℕ) (n : ℕ). x ++ drop n out) joined_is joined_long ∙ sym (joined_bytes_lem day a b out s joins) }
