-- An input is cut at its first line of the mark.
use Rattle.std.specs.Prelude.{◌≡◌, ◌≢◌, ℕ, ◌+◌, ◌-◌, ◌<◌, ◌≤◌, true, false, List, [], ◌∷◌, ◌++◌, length, take, drop}
use Rattle.std.specs.Prelude.{nat_eq, refl}
use Rattle.std.proofs.Common.{arith, sym, ap, subst, ◌∙◌, inl, inr, append_assoc, length-append}
use Rattle.std.proofs.lemmas.List.{length-take, length-drop, take_all}
use Rattle.std.proofs.Math.Seq.{take-append_seam, drop-append_seam}
use lib.Pointwise.{pointwise}
use Rattle.std.proofs.lemmas.List.Elements.{All-head, All-tail}
use Rattle.bn_base.specs.Line.{IsInLine}
use Rattle.bn_base.proofs.LineLemmas.{cut-lines-differ}
use Rattle.bn_base.specs.Cuts.{EndsLine, IsCut, IsUncut}
use Rattle.bn_base.specs.CutLaws.{CutsAreOne, CutsAreNotUncut}

-- how far an input was looked through: what is before this place ends a line, and no mark stands before it
pub record IsLooked (bytes front left : List ℕ) : Type 0 where
  pub split : bytes ≡ front ++ left
  pub begins : EndsLine front
  pub first : (table rest : List ℕ) → bytes ≡ table ++ 37 ∷ 10 ∷ rest → EndsLine table → length front ≤ length table

pub none_looked : (bytes : List ℕ) → IsLooked bytes [] bytes
none_looked bytes = record { split = refl; begins = inl refl; first = λ table rest e ends. omega arith }

-- a list that is no shorter than the front of the same bytes begins with it
record Longer (front left table more : List ℕ) : Type 0 where
  gap : List ℕ
  table_is : table ≡ front ++ gap
  left_is : left ≡ gap ++ more

longer : (front left table more : List ℕ) → front ++ left ≡ table ++ more → length front ≤ length table
    → Longer front left table more
longer [] left table more e low = record { gap = table; table_is = refl; left_is = e }
longer (x ∷ front) left [] more e low = absurd (omega arith)
longer (x ∷ front) left (y ∷ table) more e low =
    let head : y ≡ x = cc in
    let rest : front ++ left ≡ table ++ more = cc in
    let l = longer front left table more rest (omega arith) in
    record { gap = l.gap; table_is = (λ i. head i ∷ l.table_is i); left_is = l.left_is }

-- the last byte of what ends a line
gap_ends : (front : List ℕ) (y : ℕ) (ys h : List ℕ) → front ++ y ∷ ys ≡ h ++ 10 ∷ []
    → (g : List ℕ) × (y ∷ ys ≡ g ++ 10 ∷ [])
gap_ends [] y ys h e = (h, e)
gap_ends (a ∷ front) y ys [] e = absurd (some front (let t : front ++ y ∷ ys ≡ [] = cc in t))
  where
    some : (xs : List ℕ) → xs ++ y ∷ ys ≡ [] → ⊥
    some [] e = cc
    some (x ∷ xs) e = cc
gap_ends (a ∷ front) y ys (b ∷ h) e = gap_ends front y ys h (let t : front ++ y ∷ ys ≡ h ++ 10 ∷ [] = cc in t)

-- the first byte 10 is no later than another
first_ten : (line g behind more : List ℕ) → IsInLine line → line ++ 10 ∷ behind ≡ g ++ 10 ∷ more
    → length line ≤ length g
first_ten [] g behind more in_line e = omega arith
first_ten (x ∷ line) [] behind more in_line e = absurd (All-head (λ byte. byte ≢ 10) x line in_line
    (let h : x ≡ 10 = cc in h))
first_ten (x ∷ line) (y ∷ g) behind more in_line e =
    let low = first_ten line g behind more (All-tail (λ byte. byte ≢ 10) x line in_line)
    (let t : line ++ 10 ∷ behind ≡ g ++ 10 ∷ more = cc in t) in
    omega arith

-- what is left doesn't begin with the mark
abbrev pub IsNoMark : List ℕ → Type 0
IsNoMark left = (rest : List ℕ) → left ≢ 37 ∷ 10 ∷ rest

gap_long : (front line behind gap more : List ℕ) → IsInLine line → IsNoMark (line ++ 10 ∷ behind)
    → EndsLine (front ++ gap) → line ++ 10 ∷ behind ≡ gap ++ 37 ∷ 10 ∷ more → length line + 1 ≤ length gap
gap_long front line behind [] more in_line no_mark ends e = absurd (no_mark more e)
gap_long front line behind (y ∷ ys) more in_line no_mark (inl none) e = absurd (some front none)
  where
    some : (xs : List ℕ) → xs ++ y ∷ ys ≡ [] → ⊥
    some [] e = cc
    some (x ∷ xs) e = cc
gap_long front line behind (y ∷ ys) more in_line no_mark (inr (h, last)) e =
    let g = gap_ends front y ys h last in
    let whole : line ++ 10 ∷ behind ≡ g.0 ++ 10 ∷ (37 ∷ 10 ∷ more) =
    e ∙ ap (λ z. z ++ 37 ∷ 10 ∷ more) g.1 ∙ append_assoc g.0 (10 ∷ []) (37 ∷ 10 ∷ more) in
    let low = first_ten line g.0 behind (37 ∷ 10 ∷ more) in_line whole in
    let long : length (y ∷ ys) ≡ length (g.0 ++ 10 ∷ []) = ap length g.1 in
    omega (arith, length-append g.0 (10 ∷ []))

-- one line more
pub line_looked : (bytes front left line behind : List ℕ) → IsLooked bytes front left → left ≡ line ++ 10 ∷ behind
    → IsInLine line → IsNoMark left → IsLooked bytes (front ++ (line ++ 10 ∷ [])) behind
line_looked bytes front left line behind looked begins in_line no_mark =
    record {
      split = looked.split ∙ ap (λ l. front ++ l) (begins ∙ sym (append_assoc line (10 ∷ []) behind))
          ∙ sym (append_assoc front (line ++ 10 ∷ []) behind);
      begins = inr (front ++ line, sym (append_assoc front line (10 ∷ [])));
      first = no_earlier;
    }
  where
    no_earlier : (table rest : List ℕ) → bytes ≡ table ++ 37 ∷ 10 ∷ rest → EndsLine table
        → length (front ++ (line ++ 10 ∷ [])) ≤ length table
    no_earlier table rest e ends =
        let l = longer front left table (37 ∷ 10 ∷ rest) (sym looked.split ∙ e) (looked.first table rest e ends) in
        let long = gap_long front line behind l.gap rest in_line (λ r h. no_mark r (begins ∙ h))
        (subst EndsLine l.table_is ends) (sym begins ∙ l.left_is) in
        let whole : length table ≡ length (front ++ l.gap) = ap length l.table_is in
        omega (arith, length-append front (line ++ 10 ∷ []), length-append line (10 ∷ []), length-append front l.gap)

-- the mark
pub mark_looked : (bytes front left script : List ℕ) → IsLooked bytes front left → left ≡ 37 ∷ 10 ∷ script
    → IsCut bytes front script
mark_looked bytes front left script looked begins = record {
  cut = looked.split ∙ ap (λ l. front ++ l) begins;
  begins = looked.begins;
  least = looked.first;
}

-- no line more
pub all_looked : (bytes front left : List ℕ) → IsLooked bytes front left → IsInLine left → IsUncut bytes
all_looked bytes front left looked in_line table rest e ends =
    let l = longer front left table (37 ∷ 10 ∷ rest) (sym looked.split ∙ e) (looked.first table rest e ends) in
    cut-lines-differ left (l.gap ++ 37 ∷ []) rest in_line (l.left_is ∙ sym (append_assoc l.gap (37 ∷ []) (10 ∷ rest)))

-- ---- by the place to which an input was looked through

pub looked_at : (bytes front left : List ℕ) (n : ℕ) → IsLooked bytes front left → length front ≡ n
    → IsLooked bytes (take n bytes) (drop n bytes)
looked_at bytes front left n looked long =
    let before : front ≡ take n bytes = sym (ap (λ m. take m bytes) (sym long) ∙ ap (take (length front)) looked.split
    ∙ take-append_seam front left) in
    let behind : left ≡ drop n bytes = sym (ap (λ m. drop m bytes) (sym long) ∙ ap (drop (length front)) looked.split
    ∙ drop-append_seam front left) in
    subst (λ l. IsLooked bytes (take n bytes) l) behind (subst (λ f. IsLooked bytes f left) before looked)

pub next_looked : (bytes : List ℕ) (begin end : ℕ) → begin ≤ length bytes
    → IsLooked bytes (take begin bytes) (drop begin bytes) → IsInLine (take end (drop begin bytes))
    → drop begin bytes ≡ take end (drop begin bytes) ++ 10 ∷ drop (end + 1) (drop begin bytes)
    → end < length (drop begin bytes) → IsNoMark (drop begin bytes)
    → IsLooked bytes (take (begin + (end + 1)) bytes) (drop (begin + (end + 1)) bytes)
next_looked bytes begin end within looked in_line begins low no_mark =
    looked_at bytes _ _ (begin + (end + 1)) (line_looked bytes (take begin bytes) (drop begin bytes)
    (take end (drop begin bytes)) (drop (end + 1) (drop begin bytes)) looked begins in_line no_mark)
    (let a = length-append (take begin bytes) (take end (drop begin bytes) ++ 10 ∷ []) in
    let b = length-append (take end (drop begin bytes)) (10 ∷ []) in
    let c = length-take begin bytes in
    let d = length-take end (drop begin bytes) in
    omega arith)

-- the two bytes at the front aren't the mark's
pub no_mark_by : (left : List ℕ) → pointwise nat_eq (take 2 left) (37 ∷ 10 ∷ []) ≡ false → IsNoMark left
no_mark_by left other rest is = clash (sym (ap (λ l. pointwise nat_eq (take 2 l) (37 ∷ 10 ∷ [])) is) ∙ other)
  where
    clash : true ≡ false → ⊥
    clash e = cc

-- ---- one cut

-- lists of one length before what is left are one, with what is left
fronts_once : (xs ys rest other : List ℕ) → length xs ≡ length ys → xs ++ rest ≡ ys ++ other
    → (xs ≡ ys) × (rest ≡ other)
fronts_once [] [] rest other long same = (refl, same)
fronts_once [] (y ∷ ys) rest other long same = absurd (omega arith)
fronts_once (x ∷ xs) [] rest other long same = absurd (omega arith)
fronts_once (x ∷ xs) (y ∷ ys) rest other long same =
    let first : x ≡ y = cc in
    let more : xs ++ rest ≡ ys ++ other = cc in
    let behind = fronts_once xs ys rest other (omega arith) more in
    ((λ i. first i ∷ behind.0 i), behind.1)

pub cuts-one : CutsAreOne
cuts-one bytes table script front rest first second =
    let low = first.least front rest second.cut second.begins in
    let high = second.least table script first.cut first.begins in
    let long : length table ≡ length front = omega arith in
    let both = fronts_once table front (37 ∷ 10 ∷ script) (37 ∷ 10 ∷ rest) long (sym first.cut ∙ second.cut) in
    let behind : 37 ∷ 10 ∷ script ≡ 37 ∷ 10 ∷ rest = both.1 in
    (both.0, cc)

pub cuts-never_both : CutsAreNotUncut
cuts-never_both bytes table script cut uncut = uncut table script cut.cut cut.begins

-- ---- what the program sees from a place on

rest_is : (bytes : List ℕ) (begin : ℕ) → take (length bytes - begin) (drop begin bytes) ≡ drop begin bytes
rest_is bytes begin = take_all (length bytes - begin) (drop begin bytes)
    (let long = length-drop begin bytes in omega arith)

pub rest_looked : (bytes : List ℕ) (begin end : ℕ) (rest : List ℕ)
    → rest ≡ take (length bytes - begin) (drop begin bytes) → begin ≤ length bytes
    → IsLooked bytes (take begin bytes) (drop begin bytes) → IsInLine (take end rest)
    → rest ≡ take end rest ++ 10 ∷ drop (end + 1) rest
    → end < length rest → pointwise nat_eq (take 2 rest) (37 ∷ 10 ∷ []) ≡ false
    → (begin + (end + 1) ≤ length bytes) × IsLooked bytes (take (begin + (end + 1)) bytes)
    (drop (begin + (end + 1)) bytes)
rest_looked bytes begin end rest seen within looked in_line begins low other =
    let is : rest ≡ drop begin bytes = seen ∙ rest_is bytes begin in
    let long : length rest ≡ length (drop begin bytes) = ap length is in
    let size = length-drop begin bytes in (
      omega arith,
      next_looked bytes begin end within looked (subst (λ l. IsInLine (take end l)) is in_line)
          (subst (λ l. l ≡ take end l ++ 10 ∷ drop (end + 1) l) is begins) (omega arith)
          (subst IsNoMark is (no_mark_by rest other)),
    )

pub rest_uncut : (bytes : List ℕ) (begin : ℕ) (rest : List ℕ) → rest ≡ take (length bytes - begin) (drop begin bytes)
    → IsLooked bytes (take begin bytes) (drop begin bytes) → IsInLine rest → IsUncut bytes
rest_uncut bytes begin rest seen looked in_line = all_looked bytes (take begin bytes) (drop begin bytes) looked
    (subst IsInLine (seen ∙ rest_is bytes begin) in_line)
