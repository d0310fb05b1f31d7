-- Making a record: it is refused exactly for a value that is too long, for one of its own rules or for want of room; what is made reads back, and in a file only the rows on assignment, process day and file are left to hold.
-- Assumes nothing.
use Prim.Native.Nat.{ℕ, ◌^◌}
use mathlib.Core.Path.{◌≡◌, refl, sym, ap, ap₂, subst, ◌∙◌}
use mathlib.Core.Logic.{◌↔◌}
use mathlib.Core.List.{List, [], ◌∷◌, ◌++◌, append_assoc}
use mathlib.Core.Bool.{Bool, true, false}
use native.Mathlib.Omega.{arith}
use borrow.Author.Tests.{leb-true, leb-false, ltb-true, le-leb, lt-leb}
use lib.Dec.{leb, ltb, eqb}
use lib.ListN.{length, get_or, take, drop, length-append}
use lib.Seq.{take_at}
use Rattle.std.specs.Prelude.{if◌then◌else◌, Ok, Err}
use Rattle.limits.specs.Limits.{record_bytes}
use Rattle.fields.specs.Bytes.{part, same}
use Rattle.fields.specs.Numbers.{value, number_of, written, code_of}
use Rattle.fields.proofs.Every.{same_self}
use Rattle.fields.proofs.Values.{number_is, written_length}
use Rattle.fields.proofs.Width.{digit_field}
use Rattle.field_texts.specs.Texts.{to_left}
use Rattle.field_texts.proofs.Widths.{left_length, right_length}
use Rattle.dates.specs.declared.Window.{Window}
use Rattle.figures.specs.Totals.{none}
use Rattle.figures.specs.declared.totals.Totals.{Totals}
use Rattle.layout.specs.Rows.{Row, at, must, file, passes, first_fault, AllHold, other_rows, row_reason, row_field}
use Rattle.layout.proofs.Laws.{next, sound_of_all, all_of_sound, fault_not_sound}
use Rattle.rules.specs.Alone.{listed_for, own_rows, own_table}
use Rattle.rules.specs.Codes.{kind_for, kind_of, service_code}
use Rattle.rules.specs.Fields.{number_in, bytes_in, message_of, message_by}
use Rattle.rules.specs.Layouts.{repeats, notification49, message49, fields49, table_for, rows}
use Rattle.rules.specs.Growth.{nothing_yet}
use Rattle.rules.specs.Messages.{no_places}
use Rattle.rules.specs.declared.Assignment.{Assignment}
use Rattle.rules.specs.declared.Kind.{Kind}
use Rattle.rules.specs.declared.Kind.TheVariants.{R10, R20, R30, R31, R40, R41, R49, R50, R88, R89, Other}
use Rattle.rules.specs.declared.Mode.{Mode}
use Rattle.rules.specs.declared.Places.{Places}
use Rattle.rules.specs.declared.Refusal.{Refusal}
use Rattle.operations.specs.Closing.{bytes_of}
use Rattle.operations.specs.Making.{Put, record_from, too_long, not_made, on_sound, judged, make_of, lent_record, made_bytes, head, number, notification, message, code_by, recorded}
use Rattle.laws.specs.Makable.{AllFit, LongValue, Makes, MakeRefusing, too_long_value, own_rule, no_room, Values, of10, of20, of30, of31, of40, of41, of49, of50, HeadRead, ReadsBack}
use Rattle.laws.specs.Saved.{Saved}
use Rattle.laws.proofs.Bytes.{cuts, widths, cut_again, laid_length, total}
use Rattle.laws.proofs.EndRecords.{cuts_from, from_place, code_reads}
use Rattle.laws.proofs.Sound.{hold_behind}
use Rattle.laws.proofs.First.{fault_inj, sound_not_fault, broken, broken_so}
use Rattle.layout.specs.Findings.{Finding, fault, sound}
use Rattle.operations.specs.Making.{Making}
use Rattle.layout.specs.declared.Reason.TheVariants.{NoRoom, TooLong}
use Rattle.layout.specs.declared.Reason.{Reason}

-- ---- 22
pub all_fit : (ps : List Put) → too_long ps ≡ sound → AllFit ps
unfolding AllFit too_long
all_fit [] e = tt
all_fit (p ∷ ps) e = go p.fits refl e (λ x. all_fit ps x)
  where
    go : (b : Bool) → p.fits ≡ b → (if b then too_long ps else Err (fault TooLong p.field)) ≡ sound → (too_long ps ≡ sound → AllFit ps) → (p.fits ≡ true) × AllFit ps
    go true q e ih = (q, ih e)
    go false q e ih = absurd (fault_not_sound TooLong p.field e)

pub none_long : (ps : List Put) → AllFit ps → too_long ps ≡ sound
unfolding AllFit too_long
none_long [] h = refl
none_long (p ∷ ps) h = rw h.0 (none_long ps h.1)

-- a value that is too long gives 22, and its field
first_long : (ps : List Put) (n : Reason) (k : ℕ) → too_long ps ≡ Err (fault n k) → (n ≡ TooLong) × LongValue ps k
unfolding AllFit too_long
first_long [] n k e = absurd (sound_not_fault n k e)
first_long (p ∷ ps) n k e = go p.fits refl e (λ x. first_long ps n k x)
  where
    go : (b : Bool) → p.fits ≡ b → (if b then too_long ps else Err (fault TooLong p.field)) ≡ Err (fault n k) → (too_long ps ≡ Err (fault n k) → (n ≡ TooLong) × LongValue ps k) → (n ≡ TooLong) × LongValue (p ∷ ps) k
    go true q e ih =
        let v = ih e in
        (v.0, record { before = p ∷ v.1.before; value = v.1.value; unseen = v.1.unseen; whole = ap (λ (l : List Put). p ∷ l) v.1.whole; fit = (q, v.1.fit); long = v.1.long; field = v.1.field })
    go false q e ih =
        let v = fault_inj TooLong p.field n k e in
        (sym v.0, record { before = []; value = p; unseen = ps; whole = refl; fit = tt; long = q; field = v.1 })

behind_fitting : (ps : List Put) (p : Put) (qs : List Put) → AllFit ps → p.fits ≡ false → too_long (ps ++ (p ∷ qs)) ≡ Err (fault TooLong p.field)
unfolding AllFit too_long
behind_fitting [] p qs h e = rw e refl
behind_fitting (x ∷ ps) p qs h e = rw h.0 (behind_fitting ps p qs h.1 e)

long_first : (ps : List Put) (k : ℕ) → LongValue ps k → too_long ps ≡ Err (fault TooLong k)
long_first ps k v = ap too_long v.whole ∙ behind_fitting v.before v.value v.unseen v.fit v.long ∙ ap (λ (k : ℕ). Err (fault TooLong k)) v.field

-- ---- made, or refused: exactly when
module _ (kind : Kind) (ps : List Put) (room : ℕ) where
  abbrev own : Finding
  own = first_fault none [] (record_from ps) (own_table kind (record_from ps))

  abbrev last : Making
  last = if leb record_bytes room then recorded else not_made NoRoom 0

  -- the definition in its three steps
  steps : make_of kind ps room ≡ on_sound (too_long ps) (on_sound own last)
  unfolding make_of judged
  steps = refl

  made_not : (x : Refusal) → recorded ≡ Err x → ⊥
  made_not x e = let z : ◌≡◌ {A = ℕ} 0 1 = cc in omega arith

  -- what a making that went through shows
  shown : (a b : Finding) (c : Bool) → too_long ps ≡ a → own ≡ b → leb record_bytes room ≡ c → on_sound a (on_sound b (if c then recorded else not_made NoRoom 0)) ≡ recorded → Makes kind ps room
  shown (Ok u) (Ok v) true p q r e = record { fit = all_fit ps p; own = all_of_sound none [] _ _ q; enough = leb-true record_bytes room r }
  shown (Ok u) (Ok v) false p q r e = absurd (made_not _ (sym e))
  shown (Ok u) (Err x) c p q r e = absurd (made_not _ (sym e))
  shown (Err x) b c p q r e = absurd (made_not _ (sym e))

  -- a record is made exactly when every value fits, every own rule of it holds, and there is room
  pub made_exactly : (make_of kind ps room ≡ recorded) ↔ Makes kind ps room
  made_exactly = (λ e. shown (too_long ps) own (leb record_bytes room) refl refl refl (sym steps ∙ e), back)
    where
      back : Makes kind ps room → make_of kind ps room ≡ recorded
      back h = steps ∙ simp (none_long ps h.fit, sound_of_all none [] (record_from ps) (own_table kind (record_from ps)) h.own, le-leb record_bytes room h.enough)

  -- what a refusal shows
  reason : (a b : Finding) (c : Bool) (x : Refusal) → too_long ps ≡ a → own ≡ b → leb record_bytes room ≡ c
      → on_sound a (on_sound b (if c then recorded else not_made NoRoom 0)) ≡ Err x → MakeRefusing kind ps room (Err x)
  reason (Ok u) (Ok v) true x p q r e = absurd (made_not x e)
  reason (Ok u) (Ok v) false x p q r e = subst (MakeRefusing kind ps room) e (no_room (all_fit ps p) (all_of_sound none [] _ _ q) (leb-false record_bytes room r))
  reason (Ok u) (Err z) c x p q r e =
      subst (MakeRefusing kind ps room) e (own_rule z.reason z.field (all_fit ps p) (broken none [] (record_from ps) (own_table kind (record_from ps)) z.reason z.field q))
  reason (Err z) b c x p q r e =
      let v = first_long ps z.reason z.field p in
      subst (MakeRefusing kind ps room) (ap (λ (m : Reason). not_made m z.field) (sym v.0) ∙ e) (too_long_value z.field v.1)

  -- what a reason gives
  given_so : (x : Making) → MakeRefusing kind ps room x → make_of kind ps room ≡ x
  given_so _ (too_long_value k v) = steps ∙ simp (long_first ps k v)
  given_so _ (own_rule n k f v) =
      steps ∙ simp (none_long ps f, broken_so none [] (record_from ps) (own_table kind (record_from ps)) n k v)
  given_so _ (no_room f h r) = steps ∙ simp (none_long ps f, sound_of_all none [] (record_from ps) (own_table kind (record_from ps)) h, lt-leb record_bytes room r)

  -- a record is refused exactly for the first of the stated reasons, with its number and its field
  pub made_refused_exactly : (x : Refusal) → (make_of kind ps room ≡ Err x) ↔ MakeRefusing kind ps room (Err x)
  made_refused_exactly x = (λ e. reason (too_long ps) own (leb record_bytes room) x refl refl refl (sym steps ∙ e), given_so (Err x))

-- a refusal changes no byte; what is made lies over the start of the buffer
pub make_refused : (kind : Kind) (ps : List Put) (out : List ℕ) (x : Refusal) → make_of kind ps (length out) ≡ Err x → made_bytes kind ps out ≡ out
unfolding made_bytes lent_record
make_refused kind ps out x e = ap (λ (m : Making). lent_record m (record_from ps) out) e

pub made_bytes_lem : (kind : Kind) (ps : List Put) (out : List ℕ) → make_of kind ps (length out) ≡ recorded → made_bytes kind ps out ≡ record_from ps ++ drop record_bytes out
unfolding made_bytes lent_record
made_bytes_lem kind ps out e = ap (λ (m : Making). lent_record m (record_from ps) out) e

-- ---- the fields of a made record
-- its values one by one, and the line feed
unfoldable laid_out : List Put → List (List ℕ)
laid_out [] = (10 ∷ []) ∷ []
laid_out (p ∷ ps) = p.bytes ∷ laid_out ps

laid_out_lem : (ps : List Put) → record_from ps ≡ bytes_of (laid_out ps)
unfolding record_from bytes_of laid_out
laid_out_lem [] = refl
laid_out_lem (p ∷ ps) = ap (λ (s : List ℕ). p.bytes ++ s) (laid_out_lem ps)

-- by their places, if they have these widths
in_places : (ns : List ℕ) (ps : List Put) → widths (laid_out ps) ≡ ns → cuts_from 0 ns (record_from ps) ≡ laid_out ps
in_places ns ps e =
    sym (from_place 0 ns (record_from ps))
    ∙ ap₂ cuts (sym e) (laid_out_lem ps)
    ∙ cut_again (laid_out ps)

long_as : (ns : List ℕ) (ps : List Put) → widths (laid_out ps) ≡ ns → length (record_from ps) ≡ total ns
long_as ns ps e = ap length (laid_out_lem ps) ∙ laid_length (laid_out ps) ∙ ap total e

-- one of them
nth : (i : ℕ) {xs ys : List (List ℕ)} → xs ≡ ys → get_or xs i [] ≡ get_or ys i []
nth i e = ap (λ (l : List (List ℕ)). get_or l i []) e

-- a number that fits, read from its field
number_read : (w n : ℕ) {s : List ℕ} → s ≡ written w n → ltb n (10 ^ w) ≡ true → value s ≡ n
number_read w n {s} e h = (number_is s n (ap number_of e ∙ (digit_field w).reads_back n (ltb-true n (10 ^ w) h))).1

code_read : (n : ℕ) {s : List ℕ} → s ≡ written 2 n → ltb n (10 ^ 2) ≡ true → code_of s ≡ n
code_read n {s} e h = code_reads n s e (ltb-true n 100 h)

-- its length, its type and its line feed
record Shaped (kind : Kind) (r : List ℕ) : Type 0 where
  sized : length r ≡ record_bytes
  typed : kind_of r ≡ kind
  fed : part 81 81 r ≡ 10 ∷ []

-- a 49 by its service: b says that it is 04, which has no notification code
abbrev widths49 : Bool → List ℕ
widths49 b = 2 ∷ 2 ∷ 2 ∷ 2 ∷ 7 ∷ (if b then (3 ∷ 1 ∷ 40 ∷ 21 ∷ 1 ∷ []) else (1 ∷ 3 ∷ 1 ∷ 40 ∷ 20 ∷ 1 ∷ []))

module _ (service type n line column : ℕ) (words : List ℕ) where
  abbrev puts49 : Bool → List Put
  puts49 b = head R49 service type ++ (number 5 7 n ∷ []) ++ code_by b ++ message (message_by b) line column words

  fit49 : (b : Bool) → AllFit (puts49 b) → widths (laid_out (puts49 b)) ≡ widths49 b
  unfolding AllFit widths laid_out
  fit49 true h = simp (written_length, left_length 40 words (leb-true (length words) 40 h.1.1.1.1.1.1.1.0))
  fit49 false h = simp (written_length, left_length 40 words (leb-true (length words) 40 h.1.1.1.1.1.1.1.1.0))

  cut49 : (b : Bool) → AllFit (puts49 b) → cuts_from 0 (widths49 b) (record_from (puts49 b)) ≡ laid_out (puts49 b)
  cut49 b h = in_places (widths49 b) (puts49 b) (fit49 b h)

  read49 : (b : Bool) → AllFit (puts49 b)
      → let r = record_from (puts49 b) in
      HeadRead service type n r × (number_in (message_by b).line r ≡ line) × (number_in (message_by b).column r ≡ column) × (bytes_in (message_by b).text r ≡ to_left 40 words)
  unfolding AllFit cuts_from laid_out
  read49 true h =
      let p = cut49 true h in
      ((code_read service (nth 1 p) h.1.0, code_read type (nth 2 p) h.1.1.0, number_read 7 n (nth 4 p) h.1.1.1.1.0), number_read 3 line (nth 5 p) h.1.1.1.1.1.0, number_read 1 column (nth 6 p) h.1.1.1.1.1.1.0, nth 7 p)
  read49 false h =
      let p = cut49 false h in
      ((code_read service (nth 1 p) h.1.0, code_read type (nth 2 p) h.1.1.0, number_read 7 n (nth 4 p) h.1.1.1.1.0), number_read 3 line (nth 6 p) h.1.1.1.1.1.1.0, number_read 1 column (nth 7 p) h.1.1.1.1.1.1.1.0, nth 8 p)

  shaped49 : (b : Bool) → AllFit (puts49 b) → Shaped R49 (record_from (puts49 b))
  unfolding cuts_from laid_out total kind_for
  shaped49 true h = let p = cut49 true h in record { sized = long_as _ _ (fit49 true h); typed = ap kind_for (code_read 49 (nth 3 p) refl); fed = nth 9 p }
  shaped49 false h = let p = cut49 false h in record { sized = long_as _ _ (fit49 false h); typed = ap kind_for (code_read 49 (nth 3 p) refl); fed = nth 10 p }

-- how wide the fields of each record are, the line feed's among them
abbrev widths_of : (kind : Kind) (ps : List Put) → Values kind ps → List ℕ
widths_of _ _ (of10 sender n) = 2 ∷ 2 ∷ 2 ∷ 2 ∷ 8 ∷ 7 ∷ 8 ∷ 49 ∷ 1 ∷ []
widths_of _ _ (of20 service agreement assignment account) = 2 ∷ 2 ∷ 2 ∷ 2 ∷ 9 ∷ 7 ∷ 11 ∷ 45 ∷ 1 ∷ []
widths_of _ _ (of30 service type n date party amount kid) = 2 ∷ 2 ∷ 2 ∷ 2 ∷ 7 ∷ 6 ∷ 11 ∷ 17 ∷ 25 ∷ 6 ∷ 1 ∷ []
widths_of _ _ (of31 service type n text6 text7 text8) = 2 ∷ 2 ∷ 2 ∷ 2 ∷ 7 ∷ 10 ∷ 25 ∷ 25 ∷ 5 ∷ 1 ∷ []
widths_of _ _ (of40 service type n name postal filler area) = 2 ∷ 2 ∷ 2 ∷ 2 ∷ 7 ∷ 30 ∷ 4 ∷ 3 ∷ 25 ∷ 3 ∷ 1 ∷ []
widths_of _ _ (of41 service type n address1 address2 country) = 2 ∷ 2 ∷ 2 ∷ 2 ∷ 7 ∷ 30 ∷ 30 ∷ 3 ∷ 2 ∷ 1 ∷ []
widths_of _ _ (of49 service type n line column words) = widths49 (eqb service 4)
widths_of _ _ (of50 service type n kid amount) = 2 ∷ 2 ∷ 2 ∷ 2 ∷ 7 ∷ 25 ∷ 17 ∷ 23 ∷ 1 ∷ []

fit_widths : (kind : Kind) (ps : List Put) (v : Values kind ps) → AllFit ps → widths (laid_out ps) ≡ widths_of kind ps v
unfolding AllFit widths laid_out notification message_of
fit_widths _ _ (of10 sender n) h = simp written_length
fit_widths _ _ (of20 service agreement assignment account) h = simp written_length
fit_widths _ _ (of30 service type n date party amount kid) h = simp (written_length, right_length 11 party (leb-true (length party) 11 h.1.1.1.1.1.1.0), right_length 25 kid (leb-true (length kid) 25 h.1.1.1.1.1.1.1.1.0))
fit_widths _ _ (of31 service type n text6 text7 text8) h = simp (written_length, left_length 10 text6 (leb-true (length text6) 10 h.1.1.1.1.1.0), left_length 25 text7 (leb-true (length text7) 25 h.1.1.1.1.1.1.0), left_length 25 text8 (leb-true (length text8) 25 h.1.1.1.1.1.1.1.0))
fit_widths _ _ (of40 service type n name postal filler area) h = simp (written_length, left_length 30 name (leb-true (length name) 30 h.1.1.1.1.1.0), left_length 4 postal (leb-true (length postal) 4 h.1.1.1.1.1.1.0), left_length 3 filler (leb-true (length filler) 3 h.1.1.1.1.1.1.1.0), left_length 25 area (leb-true (length area) 25 h.1.1.1.1.1.1.1.1.0))
fit_widths _ _ (of41 service type n address1 address2 country) h = simp (written_length, left_length 30 address1 (leb-true (length address1) 30 h.1.1.1.1.1.0), left_length 30 address2 (leb-true (length address2) 30 h.1.1.1.1.1.1.0), left_length 3 country (leb-true (length country) 3 h.1.1.1.1.1.1.1.0))
fit_widths _ _ (of49 service type n line column words) h = fit49 service type n line column words (eqb service 4) h
fit_widths _ _ (of50 service type n kid amount) h = simp (written_length, right_length 25 kid (leb-true (length kid) 25 h.1.1.1.1.1.0))

-- every value in its place
module _ (kind : Kind) (ps : List Put) (v : Values kind ps) (h : AllFit ps) where
  places : cuts_from 0 (widths_of kind ps v) (record_from ps) ≡ laid_out ps
  places = in_places (widths_of kind ps v) ps (fit_widths kind ps v h)

reads_back : (kind : Kind) (ps : List Put) (v : Values kind ps) → AllFit ps → ReadsBack kind ps v (record_from ps)
unfolding AllFit ReadsBack cuts_from laid_out notification message_of
reads_back _ _ (of10 sender n) h = let p = places _ _ (of10 sender n) h in (number_read 8 sender (nth 4 p) h.1.1.1.1.0, number_read 7 n (nth 5 p) h.1.1.1.1.1.0)
reads_back _ _ (of20 service agreement assignment account) h = let p = places _ _ (of20 service agreement assignment account) h in (code_read service (nth 1 p) h.1.0, number_read 9 agreement (nth 4 p) h.1.1.1.1.0, number_read 7 assignment (nth 5 p) h.1.1.1.1.1.0, number_read 11 account (nth 6 p) h.1.1.1.1.1.1.0)
reads_back _ _ (of30 service type n date party amount kid) h = let p = places _ _ (of30 service type n date party amount kid) h in ((code_read service (nth 1 p) h.1.0, code_read type (nth 2 p) h.1.1.0, number_read 7 n (nth 4 p) h.1.1.1.1.0), number_read 6 date (nth 5 p) h.1.1.1.1.1.0, nth 6 p, number_read 17 amount (nth 7 p) h.1.1.1.1.1.1.1.0, nth 8 p)
reads_back _ _ (of31 service type n text6 text7 text8) h = let p = places _ _ (of31 service type n text6 text7 text8) h in ((code_read service (nth 1 p) h.1.0, code_read type (nth 2 p) h.1.1.0, number_read 7 n (nth 4 p) h.1.1.1.1.0), nth 5 p, nth 6 p, nth 7 p)
reads_back _ _ (of40 service type n name postal filler area) h = let p = places _ _ (of40 service type n name postal filler area) h in ((code_read service (nth 1 p) h.1.0, code_read type (nth 2 p) h.1.1.0, number_read 7 n (nth 4 p) h.1.1.1.1.0), nth 5 p, nth 6 p, nth 7 p, nth 8 p)
reads_back _ _ (of41 service type n address1 address2 country) h = let p = places _ _ (of41 service type n address1 address2 country) h in ((code_read service (nth 1 p) h.1.0, code_read type (nth 2 p) h.1.1.0, number_read 7 n (nth 4 p) h.1.1.1.1.0), nth 5 p, nth 6 p, nth 7 p)
reads_back _ _ (of49 service type n line column words) h = read49 service type n line column words (eqb service 4) h
reads_back _ _ (of50 service type n kid amount) h = let p = places _ _ (of50 service type n kid amount) h in ((code_read service (nth 1 p) h.1.0, code_read type (nth 2 p) h.1.1.0, number_read 7 n (nth 4 p) h.1.1.1.1.0), nth 5 p, number_read 17 amount (nth 6 p) h.1.1.1.1.1.1.0)

shaped : (kind : Kind) (ps : List Put) (v : Values kind ps) → AllFit ps → Shaped kind (record_from ps)
unfolding cuts_from laid_out total kind_for notification message_of
shaped _ _ (of10 sender n) h = let p = places _ _ (of10 sender n) h in record { sized = long_as _ _ (fit_widths _ _ (of10 sender n) h); typed = ap kind_for (code_read 10 (nth 3 p) refl); fed = nth 8 p }
shaped _ _ (of20 service agreement assignment account) h = let p = places _ _ (of20 service agreement assignment account) h in record { sized = long_as _ _ (fit_widths _ _ (of20 service agreement assignment account) h); typed = ap kind_for (code_read 20 (nth 3 p) refl); fed = nth 8 p }
shaped _ _ (of30 service type n date party amount kid) h = let p = places _ _ (of30 service type n date party amount kid) h in record { sized = long_as _ _ (fit_widths _ _ (of30 service type n date party amount kid) h); typed = ap kind_for (code_read 30 (nth 3 p) refl); fed = nth 10 p }
shaped _ _ (of31 service type n text6 text7 text8) h = let p = places _ _ (of31 service type n text6 text7 text8) h in record { sized = long_as _ _ (fit_widths _ _ (of31 service type n text6 text7 text8) h); typed = ap kind_for (code_read 31 (nth 3 p) refl); fed = nth 9 p }
shaped _ _ (of40 service type n name postal filler area) h = let p = places _ _ (of40 service type n name postal filler area) h in record { sized = long_as _ _ (fit_widths _ _ (of40 service type n name postal filler area) h); typed = ap kind_for (code_read 40 (nth 3 p) refl); fed = nth 10 p }
shaped _ _ (of41 service type n address1 address2 country) h = let p = places _ _ (of41 service type n address1 address2 country) h in record { sized = long_as _ _ (fit_widths _ _ (of41 service type n address1 address2 country) h); typed = ap kind_for (code_read 41 (nth 3 p) refl); fed = nth 9 p }
shaped _ _ (of49 service type n line column words) h = shaped49 service type n line column words (eqb service 4) h
shaped _ _ (of50 service type n kid amount) h = let p = places _ _ (of50 service type n kid amount) h in record { sized = long_as _ _ (fit_widths _ _ (of50 service type n kid amount) h); typed = ap kind_for (code_read 50 (nth 3 p) refl); fed = nth 8 p }

-- of the values of a record that is made, each is read from it; and it has 81 bytes, which lie over the start of the buffer
module _ (kind : Kind) (ps : List Put) (v : Values kind ps) (room : ℕ) where
  pub made_reads_back : make_of kind ps room ≡ recorded → ReadsBack kind ps v (record_from ps)
  made_reads_back e = reads_back kind ps v ((made_exactly kind ps room).0 e).fit

  pub made_sized : make_of kind ps room ≡ recorded → length (record_from ps) ≡ record_bytes
  made_sized e = (shaped kind ps v ((made_exactly kind ps room).0 e).fit).sized

pub made_saved : (kind : Kind) (ps : List Put) → Values kind ps → (out : List ℕ) → make_of kind ps (length out) ≡ recorded → Saved record_bytes (record_from ps) (made_bytes kind ps out)
made_saved kind ps v out e =
    let l = made_sized kind ps v (length out) e in
    let b = made_bytes_lem kind ps out e in
    record {
      long = sym l;
      fits = rw (b, length-append) (omega (arith, l));
      saved = ap (take record_bytes) b ∙ take_at (record_from ps) (drop record_bytes out) record_bytes l;
    }

-- ---- in a file
keep : (f : Totals) (ks r : List ℕ) (w : Row) (ws vs : List Row) → first_fault f ks r ws ≡ first_fault f ks r vs → first_fault f ks r (w ∷ ws) ≡ first_fault f ks r (w ∷ vs)
unfolding first_fault
keep f ks r w ws vs e = ap (λ (x : Finding). if passes f ks r w then x else Err (fault (row_reason w) (row_field w))) e

-- where a record's own rules hold, the others are left
left_over : (f : Totals) (ks r : List ℕ) (ws : List Row) → AllHold none [] r (own_rows r ws) → first_fault f ks r ws ≡ first_fault f ks r (other_rows ws)
unfolding AllHold own_rows other_rows
left_over f ks r [] h = refl
left_over f ks r (at k from to x ∷ ws) h = next f ks r (at k from to x) ws h.0 ∙ left_over f ks r ws h.1
left_over f ks r (must t n k ∷ ws) h = keep f ks r (must t n k) ws (other_rows ws) (left_over f ks r ws (hold_behind none [] r (listed_for r k) (own_rows r ws) h))
left_over f ks r (file t n k ∷ ws) h = keep f ks r (file t n k) ws (other_rows ws) (left_over f ks r ws (hold_behind none [] r (listed_for r k) (own_rows r ws) h))

-- own rules piece by piece
own_joined : (r : List ℕ) (ws vs : List Row) → own_rows r (ws ++ vs) ≡ own_rows r ws ++ own_rows r vs
unfolding own_rows
own_joined r [] vs = refl
own_joined r (at k from to x ∷ ws) vs = ap (λ (l : List Row). at k from to x ∷ l) (own_joined r ws vs)
own_joined r (must t n k ∷ ws) vs = ap (λ (l : List Row). listed_for r k ++ l) (own_joined r ws vs) ∙ sym (append_assoc (listed_for r k) (own_rows r ws) (own_rows r vs))
own_joined r (file t n k ∷ ws) vs = ap (λ (l : List Row). listed_for r k ++ l) (own_joined r ws vs) ∙ sym (append_assoc (listed_for r k) (own_rows r ws) (own_rows r vs))

-- a 49 by itself has no place to hold its own against
own49 : (ps : Places) (r : List ℕ) → own_rows r (fields49 ps r) ≡ own_rows r (notification49 (service_code r)) ++ own_rows r (message49 (message_of (service_code r)) no_places r)
unfolding own_rows
own49 ps r = own_joined r (notification49 (service_code r)) (message49 (message_of (service_code r)) ps r)

-- a table's own rules are the same whatever the process day and the assignment
own_anywhere : (k : Kind) (w : Window) (a : Assignment) (r : List ℕ) → own_table k r ≡ own_rows r (table_for k w a r)
unfolding own_table own_rows
own_anywhere R10 w a r = refl
own_anywhere R20 w a r = refl
own_anywhere R30 w a r = refl
own_anywhere R31 w a r = refl
own_anywhere R40 w a r = refl
own_anywhere R41 w a r = refl
own_anywhere R49 w a r =
    own_joined r (repeats (nothing_yet Other) r) (fields49 no_places r)
    ∙ ap (λ (l : List Row). own_rows r (repeats a r) ++ l) (own49 no_places r ∙ sym (own49 a.places r))
    ∙ sym (own_joined r (repeats a r) (fields49 a.places r))
own_anywhere R50 w a r = refl
own_anywhere R88 w a r = refl
own_anywhere R89 w a r = refl
own_anywhere Other w a r = refl

-- of a made record only the rows on the assignment, the process day and the file are left to hold, in a file and in a draft
pub made_in_a_file : (kind : Kind) (ps : List Put) → Values kind ps → (room : ℕ) → make_of kind ps room ≡ recorded
    → (m : Mode) (w : Window) (a : Assignment) (f : Totals) (ks : List ℕ)
    → first_fault f ks (record_from ps) (rows m w a (record_from ps)) ≡ first_fault f ks (record_from ps) (other_rows (rows m w a (record_from ps)))
unfolding AllHold own_rows
made_in_a_file kind ps v room e m w a f ks =
    let r = record_from ps in
    let made = (made_exactly kind ps room).0 e in
    let s = shaped kind ps v made.fit in
    let fed : same (part 81 81 r) (10 ∷ []) ≡ true = ap (λ (x : List ℕ). same x (10 ∷ [])) s.fed ∙ same_self (10 ∷ []) in
    let own : AllHold none [] r (own_rows r (table_for kind w a r)) = subst (AllHold none [] r) (own_anywhere kind w a r) made.own in
    left_over f ks r (rows m w a r) (fed, subst (λ (k : Kind). AllHold none [] r (own_rows r (table_for k w a r))) (sym s.typed) own)
