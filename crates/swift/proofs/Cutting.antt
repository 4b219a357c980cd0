-- Lines taken apart, and put together again.
use mathlib.Core.Path.{◌≡◌, refl, sym, ap, ◌∙◌}
use mathlib.Core.Logic.{◌⊎◌, inl, inr}
use mathlib.Core.Bool.{Bool, true, false, ◌&&◌, and-true}
use mathlib.Core.List.{[], ◌++◌, append_assoc}
use Prim.Native.Nat.{ℕ, ◌+◌, ◌-◌, ◌<◌, ◌≤◌}
use native.Mathlib.Omega.{arith}
use borrow.Author.Tests.{leb-true, le-leb, lt-leb}
use lib.ListN.{length, take, drop, length-append, length-drop, take-append-drop}
use lib.Seq.{take_all, take_at, drop_at, drop-drop, drop-length}
use Rattle.texts.specs.Quoted.{Text, bytes}
use Rattle.texts.specs.Texts.{between, same, starts_with}
use Rattle.texts.proofs.Codes.{same_true, same_self}
use Rattle.sheets.specs.Sheet.{text_max}
use Rattle.rules.specs.Working.Tests.{all_true}
use Rattle.swift.specs.Lines.{before_status, before_bik, before_bank, before_account, before_payee, before_kpp, before_code, line_feed, Seven, lines_of, parts_of}
use Rattle.swift.specs.Working.Places.{mark_bik, mark_account, mark_payee, mark_code, least_lines, most_lines, marks, marked}
use Rattle.swift.proofs.Forms.{Widths, each_of, of-each}

-- the lines as strings and texts one behind the other
abbrev pub flat : Seven → Text
flat t =
    bytes before_status ++ (t.status ++ (mark_bik ++ (t.bik ++ (bytes before_bank ++ (t.bank ++ (mark_account ++ (t.account ++ (mark_payee ++ (t.payee ++ (bytes before_kpp ++ (t.kpp ++ (mark_code ++ (t.code ++ line_feed)))))))))))))

joined : (m0 m1 m2 m3 m4 m5 m6 x0 x1 x2 x3 x4 x5 x6 z : Text)
    → (m0 ++ x0 ++ z) ++ (m1 ++ x1 ++ m2 ++ x2 ++ z) ++ (m3 ++ x3 ++ z) ++ (m4 ++ x4 ++ m5 ++ x5 ++ z) ++ (m6 ++ x6 ++ z)
    ≡ m0 ++ (x0 ++ (z ++ (m1 ++ (x1 ++ (m2 ++ (x2 ++ (z ++ (m3 ++ (x3 ++ (z ++ (m4 ++ (x4 ++ (m5 ++ (x5 ++ (z ++ (m6 ++ (x6 ++ z)))))))))))))))))
joined m0 m1 m2 m3 m4 m5 m6 x0 x1 x2 x3 x4 x5 x6 z = simp append_assoc

pub lines-flat : (t : Seven) → lines_of t ≡ flat t
unfolding lines_of
lines-flat t =
    joined (bytes before_status) (bytes before_bik) (bytes before_bank) (bytes before_account) (bytes before_payee) (bytes before_kpp) (bytes before_code) t.status t.bik t.bank t.account t.payee t.kpp t.code line_feed

pub length-lines : (t : Seven) → length (lines_of t) ≡ 42 + length t.status + length t.bik + length t.bank + length t.account + length t.payee + length t.kpp + length t.code
length-lines t = ap length (lines-flat t) ∙ simp length-append (omega arith)

-- ---- from the lines to the texts

cut : (b x y : Text) (o w n : ℕ) → drop o b ≡ x ++ y → length x ≡ w → o + w ≡ n → (between b o n ≡ x) × (drop n b ≡ y)
unfolding between
cut b x y o w n h l e =
    let m : n - o ≡ w = omega arith in
    (rw m (ap (take w) h ∙ take_at x y w l), ap (λ (k : ℕ). drop k b) (sym e) ∙ sym (drop-drop w o b) ∙ ap (drop w) h ∙ drop_at x y w l)

mark-is : (b m : Text) (o n : ℕ) → between b o n ≡ m → same (between b o n) m ≡ true
mark-is b m o n e = ap (λ (x : Text). same x m) e ∙ same_self m

pub cut-lines : (t : Seven) (b : Text) → Widths t → length t.code ≤ text_max → lines_of t ≡ b → (marked b ≡ true) × (parts_of b ≡ t)
unfolding marked parts_of
cut-lines t b W l e =
    let n = length b in
    let z : n ≡ least_lines + length t.code = sym (ap length e) ∙ length-lines t ∙ omega (arith, W.status, W.bik, W.bank, W.account, W.payee, W.kpp) in
    let c0 = cut b (bytes before_status) _ 0 6 6 (sym e ∙ lines-flat t) refl (omega arith) in
    let c1 = cut b t.status _ 6 2 8 c0.1 W.status (omega arith) in
    let c2 = cut b mark_bik _ 8 10 18 c1.1 refl (omega arith) in
    let c3 = cut b t.bik _ 18 9 27 c2.1 W.bik (omega arith) in
    let c4 = cut b (bytes before_bank) _ 27 1 28 c3.1 refl (omega arith) in
    let c5 = cut b t.bank _ 28 20 48 c4.1 W.bank (omega arith) in
    let c6 = cut b mark_account _ 48 6 54 c5.1 refl (omega arith) in
    let c7 = cut b t.account _ 54 20 74 c6.1 W.account (omega arith) in
    let c8 = cut b mark_payee _ 74 4 78 c7.1 refl (omega arith) in
    let c9 = cut b t.payee _ 78 10 88 c8.1 W.payee (omega arith) in
    let c10 = cut b (bytes before_kpp) _ 88 4 92 c9.1 refl (omega arith) in
    let c11 = cut b t.kpp _ 92 9 101 c10.1 W.kpp (omega arith) in
    let c12 = cut b mark_code _ 101 10 111 c11.1 refl (omega arith) in
    let c13 = cut b t.code _ 111 (length t.code) (n - 1) c12.1 refl (omega arith) in
    let c14 = cut b line_feed [] (n - 1) 1 n c13.1 refl (omega arith) in (
      of-each (marks b)
          (le-leb least_lines n (omega arith), (le-leb n most_lines (omega arith), (mark-is b _ 0 6 c0.0, (mark-is b _ 8 18 c2.0, (mark-is b _ 27 28 c4.0, (mark-is b _ 48 54 c6.0, (mark-is b _ 74 78 c8.0, (mark-is b _ 88 92 c10.0, (mark-is b _ 101 111 c12.0, (mark-is b _ (n - 1) n c14.0, tt)))))))))),
      (λ i. record { status = c1.0 i; bik = c3.0 i; bank = c5.0 i; account = c7.0 i; payee = c9.0 i; kpp = c11.0 i; code = c13.0 i }),
    )

-- ---- from the texts to the lines

part_step : (b y : Text) (o n : ℕ) → o ≤ n → drop n b ≡ y → drop o b ≡ between b o n ++ y
unfolding between
part_step b y o n h e =
    let m : o + (n - o) ≡ n = omega arith in
    sym (take-append-drop (n - o) (drop o b)) ∙ ap (λ (x : Text). take (n - o) (drop o b) ++ x) (drop-drop (n - o) o b ∙ ap (λ (k : ℕ). drop k b) m ∙ e)

mark-step : (b m y : Text) (o n : ℕ) → o ≤ n → same (between b o n) m ≡ true → drop n b ≡ y → drop o b ≡ m ++ y
mark-step b m y o n h s e = part_step b y o n h e ∙ ap (λ (x : Text). x ++ y) (same_true (between b o n) m s)

pub lines-again : (b : Text) → marked b ≡ true → lines_of (parts_of b) ≡ b
unfolding marked parts_of
lines-again b h =
    let n = length b in
    let q = each_of (marks b) h in
    let l = leb-true least_lines n q.0 in
    let m = q.1.1 in
    let d14 = mark-step b line_feed [] (n - 1) n (omega arith) m.1.1.1.1.1.1.1.0 (drop-length b) in
    let d13 = part_step b _ 111 (n - 1) (omega arith) d14 in
    let d12 = mark-step b mark_code _ 101 111 (omega arith) m.1.1.1.1.1.1.0 d13 in
    let d11 = part_step b _ 92 101 (omega arith) d12 in
    let d10 = mark-step b (bytes before_kpp) _ 88 92 (omega arith) m.1.1.1.1.1.0 d11 in
    let d9 = part_step b _ 78 88 (omega arith) d10 in
    let d8 = mark-step b mark_payee _ 74 78 (omega arith) m.1.1.1.1.0 d9 in
    let d7 = part_step b _ 54 74 (omega arith) d8 in
    let d6 = mark-step b mark_account _ 48 54 (omega arith) m.1.1.1.0 d7 in
    let d5 = part_step b _ 28 48 (omega arith) d6 in
    let d4 = mark-step b (bytes before_bank) _ 27 28 (omega arith) m.1.1.0 d5 in
    let d3 = part_step b _ 18 27 (omega arith) d4 in
    let d2 = mark-step b mark_bik _ 8 18 (omega arith) m.1.0 d3 in
    let d1 = part_step b _ 6 8 (omega arith) d2 in
    let d0 = mark-step b (bytes before_status) _ 0 6 (omega arith) m.0 d1 in
    lines-flat (parts_of b) ∙ sym d0

-- ---- has_marks

and_right : (a b c : Bool) → ((a && b) && c) ≡ (a && (b && c))
and_right true b c = refl
and_right false b c = refl

module _ (b : Text) where
  marks-low : length b < least_lines → false ≡ marked b
  unfolding marked all_true
  marks-low h = sym (rw (lt-leb least_lines (length b) h))

  marks-high : most_lines < length b → false ≡ marked b
  unfolding marked all_true
  marks-high h = sym (rw (le-leb least_lines (length b) (omega arith), lt-leb (length b) most_lines h))

  pub marks-not : (length b < least_lines) ⊎ ((least_lines ≤ length b) × (most_lines < length b)) → false ≡ marked b
  marks-not (inl h) = marks-low h
  marks-not (inr h) = marks-high h.1

  -- what the code asks at a place
  stands-as : (o n : ℕ) (r : Bool) (m : Text) → o + length m ≡ n → r ≡ starts_with (between b o (length b)) m → r ≡ same (between b o n) m
  unfolding between
  stands-as o n r m k e =
      let w : take (length b - o) (drop o b) ≡ drop o b = take_all (length b - o) (drop o b) (omega (arith, length-drop o b)) in
      let j : length m - 0 ≡ n - o = omega arith in
      e ∙ rw (w, j)

  pub marks-are : (r0 r1 r2 r3 r4 r5 r6 r7 : Bool) → least_lines ≤ length b → length b ≤ most_lines
      → r0 ≡ starts_with (between b 0 (length b)) (bytes before_status)
      → r1 ≡ starts_with (between b 8 (length b)) mark_bik
      → r2 ≡ starts_with (between b 27 (length b)) (bytes before_bank)
      → r3 ≡ starts_with (between b 48 (length b)) mark_account
      → r4 ≡ starts_with (between b 74 (length b)) mark_payee
      → r5 ≡ starts_with (between b 88 (length b)) (bytes before_kpp)
      → r6 ≡ starts_with (between b 101 (length b)) mark_code
      → r7 ≡ starts_with (between b (length b - 1) (length b)) line_feed
      → (((((((r0 && r1) && r2) && r3) && r4) && r5) && r6) && r7) ≡ marked b
  unfolding marked all_true
  marks-are r0 r1 r2 r3 r4 r5 r6 r7 l h h0 h1 h2 h3 h4 h5 h6 h7 =
      let e : (((((((r0 && r1) && r2) && r3) && r4) && r5) && r6) && r7) ≡ (r0 && (r1 && (r2 && (r3 && (r4 && (r5 && (r6 && (r7 && true)))))))) = simp (and_right, and-true) in
      let c0 = stands-as 0 6 r0 (bytes before_status) refl h0 in
      let c1 = stands-as 8 18 r1 mark_bik refl h1 in
      let c2 = stands-as 27 28 r2 (bytes before_bank) refl h2 in
      let c3 = stands-as 48 54 r3 mark_account refl h3 in
      let c4 = stands-as 74 78 r4 mark_payee refl h4 in
      let c5 = stands-as 88 92 r5 (bytes before_kpp) refl h5 in
      let c6 = stands-as 101 111 r6 mark_code refl h6 in
      let c7 = stands-as (length b - 1) (length b) r7 line_feed (omega arith) h7 in
      e ∙ (λ i. c0 i && (c1 i && (c2 i && (c3 i && (c4 i && (c5 i && (c6 i && (c7 i && true)))))))) ∙ sym (rw (le-leb least_lines (length b) l, le-leb (length b) most_lines h))

pub marked-low : (b : Text) → marked b ≡ true → least_lines ≤ length b
unfolding marked
marked-low b h = leb-true least_lines (length b) (each_of (marks b) h).0

pub marked-high : (b : Text) → marked b ≡ true → length b ≤ most_lines
unfolding marked
marked-high b h = leb-true (length b) most_lines (each_of (marks b) h).1.0
