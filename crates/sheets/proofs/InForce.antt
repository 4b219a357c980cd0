-- The statuses in force: what holds of all statuses holds of these, a text is one of them exactly if it is one of all and the date allows
-- it, how many they are, and where each stands among all.
use mathlib.Core.Path.{◌≡◌, refl, ap, sym, ◌∙◌}
use mathlib.Core.Logic.{◌↔◌}
use mathlib.Core.Bool.{Bool, true, false, cond, ◌&&◌, ◌||◌, or-true, false≢true}
use mathlib.Core.List.{List, [], ◌∷◌, map}
use Prim.Native.Nat.{ℕ, zero, suc, ◌+◌, ◌*◌, ◌/◌, ◌%◌, ◌≤◌, ◌<◌}
use native.Mathlib.Omega.{arith}
use borrow.Author.Tests.{leb-true, le-leb}
use lib.Dec.{eqb, leb}
use lib.ListN.{length, get_or}
use Rattle.std.specs.Int.{from_bool}
use Rattle.texts.specs.Quoted.{Text, bytes, words}
use Rattle.texts.specs.Texts.{every, any, among, same, value_of, value, number, ◌is◌, ◌is_one_of◌}
use Rattle.texts.proofs.Bools.{both, and2}
use Rattle.texts.proofs.Codes.{same_true, same_self, is_number, is-one-of}
use Rattle.sheets.specs.Forms.{◌⇒◌, leap, month_days, gregorian}
use Rattle.sheets.specs.Lists.{statuses}
use Rattle.sheets.specs.Working.Facts.{numbers_of, allowed_by}
use Rattle.sheets.specs.Dates.{day_number, dates_fit, Day, Dated, force_of, allowed_in, those, texts_in, listed, ascends, InForce}
use Rattle.sheets.specs.Working.Entries.{place_in, count_in}
use Rattle.sheets.specs.declared.dates.Dates.{Dates}
use Rattle.sheets.specs.declared.dates.Force.{Force}

-- ---- those of a list that pass a test

module _ (p q : Text → Bool) where
  those-step : (x : Text) (xs : List Text) (b : Bool) → p x ≡ true → every p xs ≡ true → every p (cond b (x ∷ xs) xs) ≡ true
  unfolding every
  those-step x xs true e f = and2 (p x) (every p xs) e f
  those-step x xs false e f = f

  every-those : (l : List Text) → every p l ≡ true → every p (those q l) ≡ true
  unfolding every
  every-those [] e = refl
  every-those (x ∷ xs) e = let b = both (p x) (every p xs) e in those-step x (those q xs) (q x) b.0 (every-those xs b.1)

pub every_in : (p : Text → Bool) (F : Force) → every p (words statuses) ≡ true → every p (texts_in F) ≡ true
unfolding texts_in
every_in p F e = every-those p (allowed_in F) (words statuses) e

pub entry_of : {A : Type 0} (p : A → Bool) (z : A) (l : List A) (k : ℕ) → every p l ≡ true → k < length l → p (get_or l k z) ≡ true
unfolding every
entry_of p z [] k e h = absurd (omega arith)
entry_of p z (x ∷ xs) zero e h = (both (p x) (every p xs) e).0
entry_of p z (x ∷ xs) (suc k) e h = entry_of p z xs k (both (p x) (every p xs) e).1 (omega arith)

pub entry_in : (p : Text → Bool) (l : List Text) (k : ℕ) → every p l ≡ true → k < length l → p (get_or l k []) ≡ true
entry_in p l k e h = entry_of p [] l k e h

-- ---- one of those is one of all that passes

module _ (t : Text) (p : Text → Bool) where
  listed-step : (x : Text) (xs ys : List Text) (e b : Bool) → same t x ≡ e → p x ≡ b → listed t ys ≡ (listed t xs && p t)
      → listed t (cond b (x ∷ ys) ys) ≡ ((e || listed t xs) && p t)
  unfolding any
  listed-step x xs ys true true h k i = rw h (sym (ap p (same_true t x h) ∙ k))
  listed-step x xs ys true false h k i = let z : p t ≡ false = ap p (same_true t x h) ∙ k in i ∙ rw z (go (listed t xs))
    where
      go : (a : Bool) → (a && false) ≡ false
      go true = refl
      go false = refl
  listed-step x xs ys false true h k i = rw h i
  listed-step x xs ys false false h k i = i

  listed-those : (l : List Text) → listed t (those p l) ≡ (listed t l && p t)
  unfolding any
  listed-those [] = refl
  listed-those (x ∷ xs) = listed-step x xs (those p xs) (same t x) (p x) refl refl (listed-those xs)

-- "A status is in rule 10's list .. exactly when the date allows it"
pub listed_in : (F : Force) (t : Text) → listed t (texts_in F) ≡ ((t is_one_of statuses) && allowed_in F t)
unfolding texts_in ◌is_one_of◌
listed_in F t = listed-those t (allowed_in F) (words statuses)

-- the same by its number
pub listed_by : (F : Force) (t : Text) → (among (number 2 t) (numbers_of 2 statuses) && allowed_by F (number 2 t)) ≡ listed t (texts_in F)
unfolding allowed_by every number value value_of
listed_by F t =
    cc (listed_in F t, is-one-of 2 t statuses refl, is_number 2 t (bytes "02") refl, is_number 2 t (bytes "32") refl, is_number 2 t (bytes "33") refl)

-- an entry of a list is one of it
pub listed-entry : (l : List Text) (k : ℕ) → k < length l → listed (get_or l k []) l ≡ true
unfolding any
listed-entry [] k h = absurd (omega arith)
listed-entry (x ∷ xs) zero h = rw (same_self x)
listed-entry (x ∷ xs) (suc k) h = rw (listed-entry xs k (omega arith)) (or-true (same (get_or xs k []) x))

-- ---- how many they are, and where each stands

abbrev force : Bool → Bool → Bool → Force
force a b c = record { s02 = a; s32 = b; s33 = c }

abbrev number_at : Force → ℕ → ℕ
number_at F k = get_or (numbers_of 2 statuses) (place_in F k) 0

-- what a function of the place makes at each place of a list
abbrev pub each_place : {A : Type 0} (g : ℕ → A) → List Text → List A
each_place g [] = []
each_place g (t ∷ ts) = g 0 ∷ each_place (λ (k : ℕ). g (suc k)) ts

-- of each of the eight: by one computation
record Right (F : Force) : Type 0 where
  count : count_in F ≡ length (texts_in F)
  places : each_place (number_at F) (texts_in F) ≡ map (number 2) (texts_in F)

right : (a b c : Bool) → Right (force a b c)
unfolding count_in texts_in place_in same every number value value_of
right true true true = record { count = refl; places = refl }
right true true false = record { count = refl; places = refl }
right true false true = record { count = refl; places = refl }
right true false false = record { count = refl; places = refl }
right false true true = record { count = refl; places = refl }
right false true false = record { count = refl; places = refl }
right false false true = record { count = refl; places = refl }
right false false false = record { count = refl; places = refl }

-- the eight lists: what a computation shows of each of them holds of the list in force
abbrev pub eight : List (List Text)
eight =
    texts_in (force true true true) ∷ texts_in (force true true false) ∷ texts_in (force true false true) ∷ texts_in (force true false false)
    ∷ texts_in (force false true true) ∷ texts_in (force false true false) ∷ texts_in (force false false true) ∷ texts_in (force false false false)
    ∷ []

pub by-force : (q : List Text → Bool) (F : Force) → every q eight ≡ true → q (texts_in F) ≡ true
by-force q F e = go F.s02 F.s32 F.s33
  where
    go : (a b c : Bool) → q (texts_in (force a b c)) ≡ true
    go true true true = entry_of q [] eight 0 e (omega arith)
    go true true false = entry_of q [] eight 1 e (omega arith)
    go true false true = entry_of q [] eight 2 e (omega arith)
    go true false false = entry_of q [] eight 3 e (omega arith)
    go false true true = entry_of q [] eight 4 e (omega arith)
    go false true false = entry_of q [] eight 5 e (omega arith)
    go false false true = entry_of q [] eight 6 e (omega arith)
    go false false false = entry_of q [] eight 7 e (omega arith)

-- "in ascending order"
pub ascending : (F : Force) → ascends (map (number 2) (texts_in F)) ≡ true
unfolding texts_in same every number value value_of
ascending F = by-force (λ (l : List Text). ascends (map (number 2) l)) F refl

-- 01 is the first
pub first-in : (F : Force) → get_or (texts_in F) 0 [] ≡ bytes "01"
unfolding texts_in same
first-in F = refl

right-in : (F : Force) → Right F
right-in F = right F.s02 F.s32 F.s33

-- what the code counts
pub one-if : (b : Bool) → from_bool b ≡ cond b 1 0
one-if true = refl
one-if false = refl

pub one-most : (b : Bool) → from_bool b ≤ 1
one-most true = omega arith
one-most false = omega arith

count_by : (F : Force) → count_in F ≡ 20 + cond F.s02 1 0 + cond F.s32 1 0 + cond F.s33 1 0
unfolding count_in
count_by F = refl

pub count-is : (F : Force) → count_in F ≡ length (texts_in F)
count-is F = (right-in F).count

pub places-in : (F : Force) → each_place (number_at F) (texts_in F) ≡ map (number 2) (texts_in F)
places-in F = (right-in F).places

pub count-bounds : (F : Force) → (20 ≤ count_in F) × (count_in F ≤ 23)
unfolding count_in
count-bounds F = go F.s02 F.s32 F.s33
  where
    one : (b : Bool) → cond b 1 0 ≤ 1
    one true = omega arith
    one false = omega arith

    go : (a b c : Bool) → (20 ≤ 20 + cond a 1 0 + cond b 1 0 + cond c 1 0) × (20 + cond a 1 0 + cond b 1 0 + cond c 1 0 ≤ 23)
    go a b c = (omega arith, omega (arith, one a, one b, one c))

-- ---- the list and the dates, said of the dates themselves

implies-by : (a b : Bool) → (a ≡ true → b ≡ true) → (a ⇒ b) ≡ true
implies-by true b h = h refl
implies-by false b h = refl

implied : (a b : Bool) → (a ⇒ b) ≡ true → a ≡ true → b ≡ true
implied true b e h = e
implied false b e h = absurd (false≢true h)

-- "if t is this text, then m is at most n", as a test and as a statement
if-this : (t u : Text) (m n : ℕ) → ((same t u ⇒ leb m n) ≡ true) ↔ (t ≡ u → m ≤ n)
if-this t u m n = (
  λ e k. leb-true m n (implied (same t u) (leb m n) e (rw k (same_self u))),
  λ f. implies-by (same t u) (leb m n) (λ h. le-leb m n (f (same_true t u h))),
)

pub in-force : (D : Dates) → InForce D
in-force D = record { allowed = λ t. (forth t, back t); ascending = ascending (force_of D); count = sym (count-is (force_of D)) ∙ counted }
  where
    counted : count_in (force_of D) ≡ 20 + cond (force_of D).s02 1 0 + cond (force_of D).s32 1 0 + cond (force_of D).s33 1 0
    counted = count_by (force_of D)

    a02 : Text → Bool
    a02 t = t is "02" ⇒ (force_of D).s02

    a32 : Text → Bool
    a32 t = t is "32" ⇒ (force_of D).s32

    a33 : Text → Bool
    a33 t = t is "33" ⇒ (force_of D).s33

    forth : (t : Text) → listed t (texts_in (force_of D)) ≡ true
        → ((t is_one_of statuses) ≡ true) × (t ≡ bytes "02" → D.order.0 ≤ D.last02.0) × (t ≡ bytes "32" → D.first32.0 ≤ D.order.0) × (t ≡ bytes "33" → D.first33.0 ≤ D.order.0)
    forth t e =
        let p = both (t is_one_of statuses) (allowed_in (force_of D) t) (sym (listed_in (force_of D) t) ∙ e) in
        let q = both (a02 t) (a32 t && a33 t) p.1 in
        let r = both (a32 t) (a33 t) q.1 in
        (p.0, (if-this t (bytes "02") _ _).0 q.0, (if-this t (bytes "32") _ _).0 r.0, (if-this t (bytes "33") _ _).0 r.1)

    back : (t : Text)
        → ((t is_one_of statuses) ≡ true) × (t ≡ bytes "02" → D.order.0 ≤ D.last02.0) × (t ≡ bytes "32" → D.first32.0 ≤ D.order.0) × (t ≡ bytes "33" → D.first33.0 ≤ D.order.0)
        → listed t (texts_in (force_of D)) ≡ true
    back t h =
        listed_in (force_of D) t
        ∙ and2 (t is_one_of statuses) (allowed_in (force_of D) t) h.0
        (and2 (a02 t) (a32 t && a33 t) ((if-this t (bytes "02") _ _).1 h.1) (and2 (a32 t) (a33 t) ((if-this t (bytes "32") _ _).1 h.2) ((if-this t (bytes "33") _ _).1 h.3)))

-- a number is a day's exactly if it is made of a day, a month and a year
month-most : (m y : ℕ) → month_days m y ≤ 31
unfolding month_days
month-most m y = go (among m (4 ∷ 6 ∷ 9 ∷ 11 ∷ [])) (eqb m 2) (leap y)
  where
    go : (a b c : Bool) → cond a 30 (cond b (cond c 29 28) 31) ≤ 31
    go true b c = omega arith
    go false true true = omega arith
    go false true false = omega arith
    go false false c = omega arith

day-bounds : (d m y : ℕ) → gregorian d m y ≡ true → (m ≤ 12) × (d ≤ 31)
unfolding gregorian
day-bounds d m y e =
    let p = both ((leb 1900 y && leb y 2099) && (leb 1 m && leb m 12)) (leb 1 d && leb d (month_days m y)) e in
    let q = both (leb 1900 y && leb y 2099) (leb 1 m && leb m 12) p.0 in
    (leb-true m 12 (both (leb 1 m) (leb m 12) q.1).1, omega (arith, month-most m y, leb-true d (month_days m y) (both (leb 1 d) (leb d (month_days m y)) p.1).1))

day-is : (n : ℕ) → (day_number n ≡ true) ↔ Day n
unfolding day_number
day-is n = (λ e. (n / 10000, n / 100 % 100, n % 100, omega arith, e), back)
  where
    back : Day n → gregorian (n % 100) (n / 100 % 100) (n / 10000) ≡ true
    back (y, m, d, e, g) =
        let b = day-bounds d m y g in
        let ed : n % 100 ≡ d = omega (arith, b.0, b.1, e) in
        let q : n / 100 ≡ y * 100 + m = omega (arith, b.0, b.1, e) in
        let r : (y * 100 + m) % 100 ≡ m = omega (arith, b.0) in
        let em : n / 100 % 100 ≡ m = rw q r in
        let ey : n / 10000 ≡ y = omega (arith, b.0, b.1, e) in
        rw (ed, em, ey) g

-- what error 12 does not refuse, by its causes
pub dated : (D : Dates) → (dates_fit D ≡ true) ↔ Dated D
unfolding dates_fit
dated D = (forth, back)
  where
    o : Bool
    o = day_number D.order.0

    f : Bool
    f = leb 20230925 D.order.0

    a : Bool
    a = day_number D.first32.0

    b : Bool
    b = day_number D.first33.0

    c : Bool
    c = day_number D.last02.0

    forth : ((o && f) && (a && (b && c))) ≡ true → Dated D
    forth e =
        let p = both (o && f) (a && (b && c)) e in
        let q = both o f p.0 in
        let r = both a (b && c) p.1 in
        let s = both b c r.1 in
        record { order = (day-is _).0 q.0; from = leb-true _ _ q.1; first32 = (day-is _).0 r.0; first33 = (day-is _).0 s.0; last02 = (day-is _).0 s.1 }

    back : Dated D → ((o && f) && (a && (b && c))) ≡ true
    back d =
        and2 (o && f) (a && (b && c)) (and2 o f ((day-is _).1 d.order) (le-leb _ _ d.from))
        (and2 a (b && c) ((day-is _).1 d.first32) (and2 b c ((day-is _).1 d.first33) ((day-is _).1 d.last02)))
