-- Writing: the lines put one behind the other, the promise from its equations, and the ways out.
use mathlib.Core.Path.{◌≡◌, refl, sym, ap, ◌∙◌}
use mathlib.Core.Bool.{Bool, true, false, not}
use mathlib.Core.List.{List, [], ◌∷◌, ◌++◌, append_assoc}
use Rattle.std.proofs.lemmas.List.{append-nil}
use Rattle.std.specs.Prelude.{Option, Some, None, Result, Ok, Err}
use denote.Ref.{Bor}
use Prim.Native.Nat.{ℕ, zero, suc, ◌+◌, ◌<◌, ◌≤◌}
use native.Mathlib.Numerals.{add-one}
use native.Mathlib.Omega.{arith}
use borrow.Author.Tests.{eqb-true, le-leb, lt-ltb, le-ltb, ltb-false, not-false}
use lib.Dec.{eqb}
use lib.ListN.{length, get_or, take, drop, length-append, take-append-drop}
use lib.Seq.{take_all}
use Rattle.texts.specs.Quoted.{Text, bytes}
use Rattle.texts.specs.Texts.{every, among}
use Rattle.texts.specs.Buffers.{put}
use Rattle.texts.specs.Working.Writing.{put_at, Wrote}
use Rattle.texts.specs.Refusals.{refusal_number}
use Rattle.texts.specs.declared.answers.Refusal.TheVariants.{Malformed, Undated, WrongSize, NotLines}
use Rattle.texts.specs.Answers.{success, passes}
use Rattle.texts.proofs.Bools.{and2}
use Rattle.texts.proofs.Puts.{put-fits, length-put, mid-put, drop-put, wrote_as, wrote_then}
use Rattle.texts.proofs.Refusals.{no-success, none_of, succeeds, succeeded, unchanged, Way, way_out}
use Rattle.sheets.specs.Sheet.{Sheet, sheet_size, text_max, short, well_formed, slot_of, text_of, ◌⟨◌⟩}
use Rattle.sheets.specs.Dates.{dates_fit, listed, status_texts}
use Rattle.sheets.specs.Working.Facts.{Read}
use Rattle.sheets.specs.declared.dates.Dates.{Dates}
use Rattle.sheets.specs.declared.facts.Facts.{Facts}
use Rattle.sheets.specs.declared.sheet.Field.{Field}
use Rattle.sheets.proofs.Frames.{text-short}
use Rattle.rules.specs.Rules.{class_a, rules, order, field_of, keeps, keeps_all, first_broken, rule_named}
use Rattle.rules.specs.Verdicts.{rejection_answer, check_tests}
use Rattle.rules.specs.declared.rules.RuleNumber.{RuleNumber}
use Rattle.rules.proofs.First.{none_kept, kept-none}
use Rattle.rules.proofs.Means.{order-numbered}
use Rattle.rules.proofs.Judging.{facts-read, none-as, first-as, beside-as}
use Rattle.swift.specs.Lines.{line_feed, before_status, before_bik, before_bank, before_account, before_payee, before_kpp, before_code, Seven, ended, seven_in, lines_of, slot_texts, sheet_with, any_status, fits_in, fits}
use Rattle.swift.specs.Working.Places.{least_lines, joined, lines_size}
use Rattle.swift.specs.Promises.{written_answer, line_tests, writing_lines, lines_into, WritesLines}
use Rattle.rules.specs.declared.check.Rejection.{Rejection}
use Rattle.rules.specs.declared.check.Rejection.TheVariants.{Broken, Refused}
use Rattle.swift.proofs.Forms.{fits-once, widths-in, code-long, forms-in, forms_by}
use Rattle.swift.proofs.Cutting.{length-lines}
use Rattle.swift.proofs.Reading.{seven-with}

-- ---- put_line: the first of its pieces are written, the next is put behind them

put-nothing : (b : List ℕ) (at : ℕ) → at ≤ length b → b ≡ put b at []
unfolding put
put-nothing b at l = rw (append-nil (take at b)) (sym (take-append-drop at b) ∙ ap (λ (n : ℕ). take at b ++ drop n b) (omega arith))

joined-more : (ps : List (Bor (List ℕ))) (i : ℕ) (d : Bor (List ℕ)) → i < length ps → joined (take (suc i) ps) ≡ joined (take i ps) ++ (get_or ps i d).now
joined-more [] i d h = absurd (omega arith)
joined-more (p ∷ ps) zero d h = append-nil p.now
joined-more (p ∷ ps) (suc i) d h = ap (λ (t : Text). p.now ++ t) (joined-more ps i d (omega arith)) ∙ sym (append_assoc p.now (joined (take i ps)) (get_or ps i d).now)

joined-short : (ps : List (Bor (List ℕ))) (i : ℕ) → length (joined (take i ps)) ≤ length (joined ps)
joined-short [] zero = omega arith
joined-short [] (suc i) = omega arith
joined-short (p ∷ ps) zero = omega arith
joined-short (p ∷ ps) (suc i) = omega (arith, joined-short ps i, length-append p.now (joined (take i ps)), length-append p.now (joined ps))

module _ (b : List ℕ) (at : ℕ) (ps : List (Bor (List ℕ))) (room : at + length (joined ps) + 1 ≤ length b) where
  pub put-start : Wrote b at (joined (take 0 ps)) at b
  put-start = (put-nothing b at (omega arith), omega arith)

  module _ (i r : ℕ) (c : List ℕ) (w : Wrote b at (joined (take i ps)) r c) where
    pub put-room : (d : Bor (List ℕ)) → i < length ps → r + length (get_or ps i d).now ≤ length b
    put-room d h = omega (arith, w.1, joined-short ps (suc i), ap length (joined-more ps i d h), length-append (joined (take i ps)) (get_or ps i d).now)

    pub put-more : (d : Bor (List ℕ)) (e : List ℕ) → i < length ps → e ≡ put_at c r (get_or ps i d).now → Wrote b at (joined (take (i + 1) ps)) (r + length (get_or ps i d).now) e
    put-more d e h q =
        let t = (get_or ps i d).now in
        let l : length c ≡ length b = ap length w.0 ∙ length-put b at (joined (take i ps)) (omega (arith, joined-short ps i)) in
        let k = put-room d h in
        let v : Wrote c r t (r + length t) e = (q ∙ put-fits c r t (omega arith), refl) in
        rw (add-one, joined-more ps i d h) (wrote_then b c e at r (r + length t) (joined (take i ps)) t w v k)

    pub put-end : (e : List ℕ) → length ps ≤ i → e ≡ put_at c r line_feed → Wrote b at (ended (joined ps)) (r + 1) e
    put-end e h q =
        let a : joined (take i ps) ≡ joined ps = ap joined (take_all i ps h) in
        let l : length c ≡ length b = ap length w.0 ∙ length-put b at (joined (take i ps)) (omega (arith, joined-short ps i)) in
        let v : Wrote c r line_feed (r + 1) e = (q ∙ put-fits c r line_feed (omega (arith, joined-short ps i)), refl) in
        wrote_then b c e at r (r + 1) (joined ps) line_feed (rw a at w) v (omega (arith, joined-short ps i))

-- ---- put_lines

-- one field, and two
one : (m x : Text) → m ++ (x ++ []) ≡ m ++ x
one m x = rw append-nil

four : (m x n y : Text) → m ++ (x ++ (n ++ (y ++ []))) ≡ m ++ x ++ n ++ y
four m x n y = simp (append-nil, append_assoc)

abbrev One : List ℕ → ℕ → Text → Text → ℕ → List ℕ → Type 0
One b at m x r e = Wrote b at (ended (m ++ (x ++ []))) r e

abbrev Two : List ℕ → ℕ → Text → Text → Text → Text → ℕ → List ℕ → Type 0
Two b at m x n y r e = Wrote b at (ended (m ++ (x ++ (n ++ (y ++ []))))) r e

pub lines-put : (s o c1 c2 c3 c4 e x0 x1 x2 x3 x5 x6 x8 : List ℕ) (r1 r2 r3 r4 r : ℕ) → lines_size s ≤ length o
    → x0 ≡ text_of s 0 → x1 ≡ text_of s 1 → x2 ≡ text_of s 2 → x3 ≡ text_of s 3 → x5 ≡ text_of s 5 → x6 ≡ text_of s 6 → x8 ≡ text_of s 8
    → One o 0 (bytes before_status) x6 r1 c1
    → Two c1 r1 (bytes before_bik) x0 (bytes before_bank) x1 r2 c2
    → One c2 r2 (bytes before_account) x2 r3 c3
    → Two c3 r3 (bytes before_payee) x5 (bytes before_kpp) x8 r4 c4
    → One c4 r4 (bytes before_code) x3 r e
    → Wrote o 0 (lines_of (seven_in s)) r e
unfolding seven_in ◌⟨◌⟩ slot_of lines_of
lines-put s o c1 c2 c3 c4 e x0 x1 x2 x3 x5 x6 x8 r1 r2 r3 r4 r l t0 t1 t2 t3 t5 t6 t8 h1 h2 h3 h4 h5 =
    let g1 = wrote_as _ _ _ _ _ _ (ap ended (one (bytes before_status) x6 ∙ ap (λ (x : Text). bytes before_status ++ x) t6)) h1 in
    let g2 = wrote_as _ _ _ _ _ _ (ap ended (four (bytes before_bik) x0 (bytes before_bank) x1 ∙ (λ i. bytes before_bik ++ t0 i ++ bytes before_bank ++ t1 i))) h2 in
    let g3 = wrote_as _ _ _ _ _ _ (ap ended (one (bytes before_account) x2 ∙ ap (λ (x : Text). bytes before_account ++ x) t2)) h3 in
    let g4 = wrote_as _ _ _ _ _ _ (ap ended (four (bytes before_payee) x5 (bytes before_kpp) x8 ∙ (λ i. bytes before_payee ++ t5 i ++ bytes before_kpp ++ t8 i))) h4 in
    let g5 = wrote_as _ _ _ _ _ _ (ap ended (one (bytes before_code) x3 ∙ ap (λ (x : Text). bytes before_code ++ x) t3)) h5 in
    let n1 : r1 ≡ 7 + length (text_of s 6) = g1.1 ∙ simp length-append (omega arith) in
    let n2 : r2 ≡ r1 + 11 + length (text_of s 0) + length (text_of s 1) = g2.1 ∙ simp length-append (omega arith) in
    let n3 : r3 ≡ r2 + 6 + length (text_of s 2) = g3.1 ∙ simp length-append (omega arith) in
    let n4 : r4 ≡ r3 + 8 + length (text_of s 5) + length (text_of s 8) = g4.1 ∙ simp length-append (omega arith) in
    let n5 : r ≡ r4 + 10 + length (text_of s 3) = g5.1 ∙ simp length-append (omega arith) in
    let w2 = wrote_then o c1 c2 0 r1 r2 _ _ g1 g2 (omega arith) in
    let w3 = wrote_then o c2 c3 0 r2 r3 _ _ w2 g3 (omega arith) in
    let w4 = wrote_then o c3 c4 0 r3 r4 _ _ w3 g4 (omega arith) in
    wrote_then o c4 e 0 r4 r _ _ w4 g5 (omega arith)

-- ---- an accepted sheet of class A fits

all_short : (s : Sheet) → every short (slot_texts (seven_in s)) ≡ true
unfolding seven_in ◌⟨◌⟩ slot_of every
all_short s =
    let c : (k : ℕ) → short (text_of s k) ≡ true = λ k. le-leb (length (text_of s k)) text_max (text-short s k) in
    rw (c 0, c 1, c 2, c 3, c 5, c 6, c 8)

fits-seven : (s : Sheet) → fits_in s ≡ true → fits (seven_in s) ≡ true
unfolding fits
fits-seven s h =
    let t = seven_in s in
    let g : Seven → Bool = λ u. forms_by (listed u.status (status_texts any_status)) u in
    let e : fits_in (sheet_with t) ≡ fits_in s = forms-in (sheet_with t) ∙ ap g (seven-with t (all_short s)) ∙ sym (forms-in s) in
    and2 (every short (slot_texts t)) (fits_in (sheet_with t)) (all_short s) (e ∙ h)

-- of such a sheet all texts but that of 22 have one length
sizes : (s : Sheet) → fits_in s ≡ true → (lines_size s ≡ least_lines + length (text_of s 3)) × (length (lines_of (seven_in s)) ≡ least_lines + length (text_of s 3))
unfolding seven_in ◌⟨◌⟩ slot_of
sizes s h =
    let W = widths-in s h in
    let a = W.status in
    let b = W.bik in
    let c = W.bank in
    let d = W.account in
    let e = W.payee in
    let f = W.kpp in
    (omega arith, length-lines (seven_in s) ∙ omega arith)

-- ---- the promise

written-made : (w : Result ℕ Rejection) (n : ℕ) → written_answer w ≡ success (n ∷ []) → w ≡ Ok n
unfolding written_answer rejection_answer
written-made (Ok k) n e = cc
written-made (Err (Broken f r)) n e = absurd (no-success 8 _ _ e)
written-made (Err (Refused k)) n e = absurd (no-success (refusal_number k) [] _ e)

module _ (D : Dates) (s : Sheet) (o : List ℕ) where
  -- what writing asks for
  record Asked : Type 0 where
    pub formed : well_formed s ≡ true
    pub dated : dates_fit D ≡ true
    pub kept : keeps_all D s ≡ true
    pub class : class_a s ≡ true
    pub room : length (lines_of (seven_in s)) ≤ length o

  asks : passes (line_tests D s o) ≡ true → Asked
  unfolding line_tests check_tests keeps_all
  asks e =
      let p = none_of (line_tests D s o) e in
      record {
        formed = not-false _ p.0;
        dated = not-false _ p.1.0;
        kept = none_kept (keeps D s) order order-numbered (eqb-true _ _ (not-false _ p.1.1.0));
        class = not-false _ p.1.1.1.0;
        room = ltb-false _ _ p.1.1.1.1.0;
      }

  asked : Asked → passes (line_tests D s o) ≡ true
  unfolding line_tests check_tests keeps_all
  asked Q = rw (Q.formed, Q.dated, kept-none (keeps D s) order Q.kept, Q.class, le-ltb _ _ Q.room)

  writes-by : (r : Result ℕ Rejection) (e : List ℕ) → written_answer r ≡ writing_lines D s o → e ≡ lines_into D s o → WritesLines D s o r e
  unfolding writing_lines lines_into written_answer
  writes-by r e p q = record {
    answer = p;
    buffer = q;
    refused = λ n. q ∙ unchanged _ _ _ (line_tests D s o) (λ z. n (length (lines_of (seven_in s))) (written-made r _ (p ∙ z)));
    exactly = (
      λ z. let Q = asks (succeeded _ _ (line_tests D s o) (ap written_answer (sym z) ∙ p)).0 in (Q.formed, Q.dated, Q.kept, Q.class, Q.room),
      λ (a, b, c, d, f). written-made r _ (p ∙ succeeds _ [] (line_tests D s o) (asked (record { formed = a; dated = b; kept = c; class = d; room = f }))),
    );
    made = λ n z. let w = out_of n z in (w.1.0, w.1.1);
    long = λ n z.
        let w = out_of n z in
        let f = fits-once D s w.0.kept w.0.class in
        ap (λ (k : ℕ). among k (113 ∷ 116 ∷ 132 ∷ 137 ∷ [])) (w.2 ∙ (sizes s f).1) ∙ code-long s f;
    back = λ n z x y u l R.
        let w = out_of n z in
        let f = fits-seven s (fits-once D s w.0.kept w.0.class) in
        let g = (R.exactly l).1 (seven_in s, f, sym w.1.0) in
        (g, sym (R.only g (seven_in s) f (sym w.1.0)));
  }
    where
      out_of : (n : ℕ) → r ≡ Ok n → Asked × ((take n e ≡ lines_of (seven_in s)) × (drop n e ≡ drop n o)) × (n ≡ length (lines_of (seven_in s)))
      out_of n z =
          let (k, j) = succeeded (length (lines_of (seven_in s)) ∷ []) (n ∷ []) (line_tests D s o) (ap written_answer (sym z) ∙ p) in
          let m : n ≡ length (lines_of (seven_in s)) = cc in
          let Q = asks k in
          let h = Q.room in
          let u : e ≡ put o 0 (lines_of (seven_in s)) = q ∙ rw k in
          (Q, (ap (take n) u ∙ mid-put o 0 (lines_of (seven_in s)) n (sym m) (omega arith), ap (drop n) u ∙ drop-put o 0 (lines_of (seven_in s)) n (omega arith) (omega arith)), m)

-- ---- the ways out of `write_lines`

pub write-out : (k : ℕ) (D : Dates) (s : Sheet) (o : List ℕ) (r : Result ℕ Rejection) (e : List ℕ) → Way (length (lines_of (seven_in s)) ∷ []) (put o 0 (lines_of (seven_in s))) o (written_answer r) e (WritesLines D s o r e) k (line_tests D s o)
unfolding writing_lines lines_into
write-out k D s o r e = way_out _ _ _ _ _ _ k (line_tests D s o) (λ p q. writes-by D s o r e p q)

-- ---- write_lines: its tests, one behind another

module _ (D : Dates) (s : Sheet) (o : List ℕ) (w : Bool) (ew : w ≡ well_formed s) where
  pub not-formed : w ≡ false → WritesLines D s o (Err (Refused Malformed)) o
  unfolding check_tests line_tests written_answer rejection_answer
  not-formed n = write-out 0 D s o _ o (ap not (sym ew ∙ n)) refl refl

  module _ (nw : w ≡ true) (v : Bool) (ev : v ≡ dates_fit D) where
    formed : not (well_formed s) ≡ false
    formed = ap not (sym ew ∙ nw)

    pub not-dated : v ≡ false → WritesLines D s o (Err (Refused Undated)) o
    unfolding check_tests line_tests written_answer rejection_answer
    not-dated n = write-out 1 D s o _ o formed (ap not (sym ev ∙ n)) refl refl

    -- what was read of the sheet, and its first broken rule
    module _ (nv : v ≡ true) (x : Facts) (hx : length s ≡ sheet_size → Read D x s) (r : Option RuleNumber) (hr : (E : Dates) (t : Sheet) → Read E x t → r ≡ rule_named (first_broken E t order)) where
      dated : not (dates_fit D) ≡ false
      dated = ap not (sym ev ∙ nv)

      facts : Read D x s
      facts = facts-read D s w x ew (ap not nw) hx

      pub not-kept : (g : RuleNumber) → r ≡ Some g → (f : Field) → f.0 ≡ field_of rules g.0 s → WritesLines D s o (Err (Broken f g)) o
      unfolding check_tests line_tests written_answer rejection_answer
      not-kept g e f h =
          let n : Some g ≡ rule_named (first_broken D s order) = sym e ∙ hr D s facts in
          write-out 2 D s o _ o formed dated (first-as D s g n) (beside-as D s g n f h) refl

      module _ (e : r ≡ None) (a : Bool) (ha : (E : Dates) (t : Sheet) → Read E x t → a ≡ class_a t) where
        none_broken : not (eqb (first_broken D s order) 0) ≡ false
        none_broken = none-as D s (sym e ∙ hr D s facts)

        in_class_a : a ≡ class_a s
        in_class_a = ha D s facts

        pub other-class : a ≡ false → WritesLines D s o (Err (Refused NotLines)) o
        unfolding check_tests line_tests written_answer rejection_answer
        other-class n = write-out 3 D s o _ o formed dated none_broken (ap not (sym in_class_a ∙ n)) refl refl

        -- the room that an accepted sheet of class A asks for
        module _ (na : a ≡ true) (t : Text) (et : t ≡ text_of s 3) where
          of_class_a : class_a s ≡ true
          of_class_a = sym in_class_a ∙ na

          sized : (lines_size s ≡ least_lines + length t) × (length (lines_of (seven_in s)) ≡ least_lines + length t)
          unfolding keeps_all
          sized =
              let k : keeps_all D s ≡ true = none_kept (keeps D s) order order-numbered (eqb-true _ _ (not-false _ none_broken)) in
              rw et (sizes s (fits-once D s k of_class_a))

          pub too-short : length o < least_lines + length t → WritesLines D s o (Err (Refused WrongSize)) o
          unfolding check_tests line_tests written_answer rejection_answer
          too-short h = write-out 4 D s o _ o formed dated none_broken (ap not of_class_a) (rw sized.1 (lt-ltb (length o) (least_lines + length t) h)) refl refl

          pub room_for : least_lines + length t ≤ length o → lines_size s ≤ length o
          room_for h = rw sized.0 h

          pub write-whole : least_lines + length t ≤ length o → (k : ℕ) (y : List ℕ) → Wrote o 0 (lines_of (seven_in s)) k y → WritesLines D s o (Ok k) y
          unfolding check_tests line_tests written_answer
          write-whole h k y z =
              write-out 5 D s o (Ok k) y formed dated none_broken (ap not of_class_a) (rw sized.1 (le-ltb (length o) (least_lines + length t) h)) (ap (λ (m : ℕ). success (m ∷ [])) (z.1 ∙ omega arith)) z.0
