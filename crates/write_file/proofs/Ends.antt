-- An end record of its parts, and a file with its 89 behind it.
-- Assumes nothing.
use Prim.Native.Nat.{ℕ, ◌+◌, ◌-◌, ◌≤◌}
use mathlib.Core.Path.{◌≡◌, refl, sym, ap, ap₂, ◌∙◌}
use mathlib.Core.List.{List, [], ◌∷◌, ◌++◌, append_assoc}
use native.Mathlib.Omega.{arith}
use borrow.Rule.Slice.PartMut.{put_mid}
use lib.ListN.{length, take, drop, length-append}
use Rattle.field_texts.proofs.Wrote.{at_first, behind, told}
use Rattle.fields.specs.Numbers.{written}
use Rattle.fields.proofs.Values.{written_length}
use Rattle.dates.specs.Dates.{date, ddmmyy}
use Rattle.dates.specs.declared.Date.{Date}
use Rattle.figures.specs.declared.totals.Totals.{Totals}
use Rattle.operations.specs.Ends.{end_record, end89}
use Rattle.write_fields.specs.Parts.{head_bytes}
use Rattle.write_fields.proofs.Places.{head_length}
use Rattle.write_file.specs.Parts.{figure_bytes}

pub figures_are : (t : Totals) (last : Date)
    → ((((((([] ++ written 8 t.transactions.0) ++ written 8 t.records.0) ++ written 17 t.sum.0) ++ written 6 (ddmmyy t.first)) ++ written 6 (ddmmyy last)) ++ written 27 0) ++ (10 ∷ [])) ≡ figure_bytes t last
unfolding figure_bytes
figures_are t last = simp append_assoc

pub record_is : (service kind : ℕ) (t : Totals) (last : Date) → head_bytes service 0 kind ++ figure_bytes t last ≡ end_record service kind t last
unfolding head_bytes figure_bytes end_record
record_is service kind t last = simp append_assoc

pub figures_length : (t : Totals) (last : Date) → length (figure_bytes t last) ≡ 73
unfolding figure_bytes
figures_length t last = simp (length-append, written_length)

pub end_length : (service kind : ℕ) (t : Totals) (last : Date) → length (end_record service kind t last) ≡ 81
end_length service kind t last =
    sym (ap length (record_is service kind t last)) ∙ length-append (head_bytes service 0 kind) (figure_bytes t last) ∙ ap₂ ◌+◌ (head_length service 0 kind) (figures_length t last)

-- ---- a file: its start, its assignments, its 89, one behind the other
pub file_put : (d start body one two last : List ℕ) (t : Totals) → length start + length body + 81 ≤ length d
    → one ≡ start ++ drop (length start) d
    → two ≡ body ++ drop (length body) (take (length one - length start) (drop (length start) one))
    → last ≡ end89 t ++ drop 81 (take (length (put_mid (length start) (length one - length start) one two) - (length start + length body)) (drop (length start + length body) (put_mid (length start) (length one - length start) one two)))
    → put_mid (length start + length body) (length (put_mid (length start) (length one - length start) one two) - (length start + length body)) (put_mid (length start) (length one - length start) one two) last
    ≡ (start ++ (body ++ end89 t)) ++ drop (length start + length body + 81) d
file_put d start body one two last t room p q r =
    let el = end_length 0 89 t (date 0) in
    let sl = length-append start body in
    let w1 = at_first start d one (length start) refl (omega arith) p in
    let w2 = behind start d one body two (length start) (length body) w1 refl refl (omega arith) q in
    let w3 = behind (start ++ body) d _ (end89 t) last (length start + length body) 81 w2 (sym sl) (sym el) (omega (arith, sl, el)) r in
    told _ (start ++ (body ++ end89 t)) d _ (length start + length body + 81) w3 (append_assoc start body (end89 t))
    (sym (ap length (append_assoc start body (end89 t))) ∙ length-append (start ++ body) (end89 t) ∙ ap₂ ◌+◌ sl el)
