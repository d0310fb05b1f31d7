-- A file of a record 10, whole assignments and its 89, on bytes: its parts, its keys and its figures, and the file that two of them are joined to.
-- Assumes nothing.
use Rattle.std.proofs.Common.{Some, Ok}
use Prim.Native.Nat.{ℕ, ◌+◌, ◌-◌, ◌*◌, ◌≤◌}
use mathlib.Core.Path.{◌≡◌, refl, sym, ap, ap₂, subst, ◌∙◌}
use mathlib.Core.List.{List, [], ◌∷◌, ◌++◌, append-nil, append_assoc}
use native.Mathlib.Omega.{arith}
use lib.ListN.{length, take, drop, length-append, length-drop}
use lib.Seq.{take_at, drop_at, take-append-le, drop-append-le}
use Rattle.dates.specs.Windows.{window_of}
use Rattle.dates.specs.declared.ProcessDay.{ProcessDay}
use Rattle.dates.specs.declared.Window.{Window}
use Rattle.dates.specs.Dates.{earlier}
use Rattle.dates.proofs.Laws.{earlier_none, none_earlier}
use Rattle.fields.specs.Bytes.{part}
use Rattle.figures.specs.Figures.{amount, count}
use Rattle.figures.specs.Totals.{◌⊕◌, one_record}
use Rattle.figures.specs.declared.totals.Totals.{Totals}
use Rattle.rules.specs.Growth.{keys_for}
use Rattle.rules.specs.Run.{records_of, check_of}
use Rattle.rules.specs.declared.Kind.{Kind}
use Rattle.operations.specs.Ends.{end89}
use Rattle.operations.specs.Closing.{bytes_of}
use Rattle.operations.specs.Joining.{sender, both, without_end, assignments_of, joined_file}
use Rattle.laws.specs.Meets.{gains, all_keys}
use Rattle.laws.specs.View.{figures_of, made, Good}
use Rattle.laws.specs.Joinable.{keys_of}
use Rattle.laws.proofs.Sound.{gains_join, keys_join}
use Rattle.laws.proofs.Bytes.{bytes_length, records_again}
use Rattle.laws.proofs.EndRecords.{sized_89, kind_89}
use Rattle.laws.proofs.EndsPut.{gains_records}
use Rattle.laws.proofs.View.{viewed, made_sized}

pub bytes_join : (xs ys : List (List ℕ)) → bytes_of (xs ++ ys) ≡ bytes_of xs ++ bytes_of ys
unfolding bytes_of
bytes_join [] ys = refl
bytes_join (x ∷ xs) ys = ap (λ (b : List ℕ). x ++ b) (bytes_join xs ys) ∙ sym (append_assoc x (bytes_of xs) (bytes_of ys))

-- the bytes of such a file
abbrev pub file_of : List ℕ → List (List ℕ) → List ℕ
file_of head body = bytes_of (made head body)

-- an accepted file under a known window
pub record View (w : Window) (b : List ℕ) (t : Totals) : Type 0 where
  pub head : List ℕ
  pub body : List (List ℕ)
  pub good : Good w head body
  pub bytes : b ≡ file_of head body
  pub figures : t ≡ figures_of body

pub view : (day : ProcessDay) (w : Window) (b : List ℕ) (t : Totals) → window_of day ≡ Some w → check_of day b ≡ Ok t → View w b t
view day w b t o e =
    let v = viewed day b t e in
    let same : v.window ≡ w = cc in
    record { head = v.head; body = v.body; good = subst (λ (x : Window). Good x v.head v.body) same v.good; bytes = v.bytes; figures = v.figures }

-- ---- its parts
file_is : (head : List ℕ) (body : List (List ℕ)) → file_of head body ≡ (head ++ bytes_of body) ++ end89 (figures_of body)
unfolding made bytes_of
file_is head body =
    ap (λ (b : List ℕ). head ++ b) (bytes_join body (end89 (figures_of body) ∷ []) ∙ ap (λ (b : List ℕ). bytes_of body ++ b) (append-nil (end89 (figures_of body))))
    ∙ sym (append_assoc head (bytes_of body) (end89 (figures_of body)))

module _ (w : Window) (head : List ℕ) (body : List (List ℕ)) (g : Good w head body) where
  pub made_records : records_of (file_of head body) ≡ made head body
  made_records = records_again (made head body) (made_sized w head body g)

  front_length : length (head ++ bytes_of body) ≡ 81 * (length body + 1)
  front_length = omega (arith, length-append head (bytes_of body), bytes_length body g.sized, g.head_sized)

  pub file_length : length (file_of head body) ≡ 81 * (length body + 2)
  file_length =
      omega (arith, ap length (file_is head body), length-append (head ++ bytes_of body) (end89 (figures_of body)), front_length, sized_89 (one_record ⊕ gains body))

  -- as many records as its figures say
  pub file_counted : length (file_of head body) ≡ 81 * (figures_of body).records.0
  file_counted = omega (arith, file_length, gains_records body)

  pub file_front : without_end (file_of head body) ≡ head ++ bytes_of body
  file_front =
      let n : length (head ++ bytes_of body) ≡ length (file_of head body) - 81 = omega (arith, file_length, front_length) in
      ap (take (length (file_of head body) - 81)) (file_is head body) ∙ take_at (head ++ bytes_of body) (end89 (figures_of body)) (length (file_of head body) - 81) n

  pub file_body : assignments_of (file_of head body) ≡ bytes_of body
  file_body = ap (drop 81) file_front ∙ drop_at head (bytes_of body) 81 g.head_sized

  pub body_records : records_of (assignments_of (file_of head body)) ≡ body
  body_records = ap records_of file_body ∙ records_again body g.sized

  rest : List ℕ
  rest = bytes_of body ++ end89 (figures_of body)

  head_first : file_of head body ≡ head ++ rest
  unfolding rest
  head_first = file_is head body ∙ append_assoc head (bytes_of body) (end89 (figures_of body))

  pub file_head : take 81 (file_of head body) ≡ head
  file_head = ap (take 81) head_first ∙ take_at head rest 81 g.head_sized

  pub file_sender : sender (file_of head body) ≡ part 9 16 head
  file_sender =
      let l : 8 ≤ length head = omega (arith, g.head_sized) in
      let l' : 8 ≤ length (drop 8 head) = omega (arith, length-drop 8 head, g.head_sized) in
      ap (part 9 16) head_first ∙ ap (take 8) (drop-append-le 8 head rest l) ∙ take-append-le 8 (drop 8 head) rest l'

  pub file_keys : keys_of (file_of head body) ≡ all_keys body
  unfolding made all_keys
  file_keys =
      ap all_keys made_records
      ∙ ap₂ (λ (x y : List ℕ). x ++ y) (ap (λ (k : Kind). keys_for k head) g.type) (keys_join body (end89 (figures_of body) ∷ []))
      ∙ ap (λ (k : Kind). all_keys body ++ (keys_for k (end89 (figures_of body)) ++ [])) (kind_89 (one_record ⊕ gains body))
      ∙ append-nil (all_keys body)

-- ---- two of them in one
-- their figures: each counts a 10 and an 89, the one file counts one of each
pub both_are : (x y : List (List ℕ)) → both (figures_of x) (figures_of y) ≡ figures_of (x ++ y)
both_are x y =
    let e = gains_join x y in
    let a : 0 + (gains x).assignments.0 + 0 + (0 + (gains y).assignments.0 + 0) ≡ 0 + (gains (x ++ y)).assignments.0 + 0 = omega (arith, ap (λ (t : Totals). t.assignments.0) e) in
    let n : 0 + (gains x).transactions.0 + 0 + (0 + (gains y).transactions.0 + 0) ≡ 0 + (gains (x ++ y)).transactions.0 + 0 = omega (arith, ap (λ (t : Totals). t.transactions.0) e) in
    let r : 1 + (gains x).records.0 + 1 + (1 + (gains y).records.0 + 1) - 2 ≡ 1 + (gains (x ++ y)).records.0 + 1 = omega (arith, ap (λ (t : Totals). t.records.0) e) in
    let s : 0 + (gains x).sum.0 + 0 + (0 + (gains y).sum.0 + 0) ≡ 0 + (gains (x ++ y)).sum.0 + 0 = omega (arith, ap (λ (t : Totals). t.sum.0) e) in
    let d : earlier (figures_of x).first (figures_of y).first ≡ (figures_of (x ++ y)).first =
    ap₂ earlier (alone x) (alone y) ∙ sym (ap (λ (t : Totals). t.first) e) ∙ sym (alone (x ++ y)) in
    λ i. record { assignments = count (a i); transactions = count (n i); records = count (r i); sum = amount (s i); first = d i }
  where
    alone : (z : List (List ℕ)) → (figures_of z).first ≡ (gains z).first
    alone z = earlier_none (earlier one_record.first (gains z).first) ∙ none_earlier (gains z).first

pub joined_is : (w : Window) (h h' : List ℕ) (x y : List (List ℕ)) → Good w h x → Good w h' y → joined_file (file_of h x) (file_of h' y) (figures_of (x ++ y)) ≡ file_of h (x ++ y)
unfolding joined_file
joined_is w h h' x y g g' =
    let z = end89 (figures_of (x ++ y)) in
    ap₂ (λ (b c : List ℕ). b ++ (c ++ z)) (file_front w h x g) (file_body w h' y g')
    ∙ sym (append_assoc (h ++ bytes_of x) (bytes_of y) z)
    ∙ ap (λ (b : List ℕ). b ++ z) (append_assoc h (bytes_of x) (bytes_of y) ∙ ap (λ (b : List ℕ). h ++ b) (sym (bytes_join x y)))
    ∙ sym (file_is h (x ++ y))
