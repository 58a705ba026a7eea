-- What the symbols tell that a quadruple reads.
use Rattle.std.specs.Prelude.{◌≡◌, ℕ, ◌+◌, ◌<◌, ◌≤◌, List, [], ◌∷◌, ◌++◌, refl}
use Rattle.std.proofs.Common.{zero, suc, arith, sym, ap, ◌∙◌, append_assoc, append-nil}
use Rattle.bn_machine.specs.Tape.{Tape, scanned}
use Rattle.bn_machine.specs.Outcome.{Limits}
use Rattle.bn_quad.specs.Quadruples.{Deed, Rewrite, Move, Rule, Configuration, Quadruples, DeedApplies}
use Rattle.bn_quad.specs.Overlap.{IsAlike, HaveSameTapes}
use Rattle.bn_network.specs.declared.cell_line.CellLine.TheVariants.{Read, Answer}
use Rattle.bn_network.specs.Controls.{Reads, reads, reads_of, shifts_of, writes_of, symbols_read}
use Rattle.bn_network.specs.Networks.{IsTape}
use Rattle.bn_network_laws.specs.Commands.{head_of}
use Rattle.bn_network_laws.specs.Ends.{tape_of, put_tape, read_by}
use Rattle.bn_network_laws.proofs.ChainLemmas.{Stop, AllDo}
use Rattle.bn_network_laws.proofs.StopLemmas.{stop_at, write_stops, shift_stops, read_stops, stops_of}
use Rattle.bn_network_laws.proofs.ObeyLemmas.{read_moves, obey_read}
use Rattle.bn_network_laws.specs.Stops.{DeedReads, deed_at, deeds_before, AdmitsBefore, symbols_before, taken_before}

-- ---- a quadruple with the same tapes, by the symbols that it reads

-- tape 1
one_by : (d e : Deed) (es : List Deed) (z : ℕ) (zs : List ℕ) (x : Tape) → IsAlike d e → DeedReads d
    → symbols_read (reads 1 (e ∷ es)) ≡ z ∷ zs
    → z ≡ scanned x → DeedApplies e x
one_by (Rewrite a w) (Rewrite b v) es z zs x alike is same here = let first : b ≡ z = cc in sym (first ∙ here)
one_by (Rewrite a w) (Move s) es z zs x alike is same here = absurd alike
one_by (Move s) e es z zs x alike is same here = absurd is

-- tapes 1 and 2
two_by : (d f e g : Deed) (es : List Deed) (z : ℕ) (zs : List ℕ) (x y : Tape) → IsAlike d e → IsAlike f g
    → DeedApplies d x → DeedReads f
    → symbols_read (reads 1 (e ∷ g ∷ es)) ≡ symbols_read (reads 1 (d ∷ [])) ++ (z ∷ zs) → z ≡ scanned y
    → DeedApplies e x × DeedApplies g y
two_by d (Move s) e g es z zs x y alike like applies is same here = absurd is
two_by d (Rewrite a w) e (Move s) es z zs x y alike like applies is same here = absurd like
two_by (Rewrite b v) (Rewrite a w) (Move s) (Rewrite i j) es z zs x y alike like applies is same here = absurd alike
two_by (Move s) (Rewrite a w) (Rewrite i j) (Rewrite h k) es z zs x y alike like applies is same here = absurd alike
two_by (Rewrite b v) (Rewrite a w) (Rewrite i j) (Rewrite h k) es z zs x y alike like applies is same here =
    let first : b ≡ i = cc in
    let second : h ≡ z = cc in
    (applies ∙ first, sym (second ∙ here))
two_by (Move s) (Rewrite a w) (Move u) (Rewrite h k) es z zs x y alike like applies is same here = let second : h ≡ z =
    cc in (tt, sym (second ∙ here))

-- tapes 1 to 3
three_by : (d f n e g o : Deed) (z : ℕ) (zs : List ℕ) (x y v : Tape) → IsAlike d e → IsAlike f g → IsAlike n o
    → DeedApplies d x → DeedApplies f y → DeedReads n
    → symbols_read (reads 1 (e ∷ g ∷ o ∷ [])) ≡ symbols_read (reads 1 (d ∷ f ∷ [])) ++ (z ∷ zs) → z ≡ scanned v
    → (DeedApplies e x × DeedApplies g y) × DeedApplies o v
three_by d f (Move s) e g o z zs x y v a1 a2 a3 h1 h2 is same here = absurd is
three_by d f (Rewrite a w) e g (Move s) z zs x y v a1 a2 a3 h1 h2 is same here = absurd a3
three_by (Rewrite b u) f (Rewrite a w) (Move s) g (Rewrite i j) z zs x y v a1 a2 a3 h1 h2 is same here = absurd a1
three_by (Move s) f (Rewrite a w) (Rewrite b u) g (Rewrite i j) z zs x y v a1 a2 a3 h1 h2 is same here = absurd a1
three_by (Rewrite b u) (Rewrite p q) (Rewrite a w) (Rewrite b' u') (Move s) (Rewrite i j) z zs x y v a1 a2 a3 h1 h2 is
    same here = absurd a2
three_by (Rewrite b u) (Move s) (Rewrite a w) (Rewrite b' u') (Rewrite p q) (Rewrite i j) z zs x y v a1 a2 a3 h1 h2 is
    same here = absurd a2
three_by (Move r) (Rewrite p q) (Rewrite a w) (Move r') (Move s) (Rewrite i j) z zs x y v a1 a2 a3 h1 h2 is same here =
    absurd a2
three_by (Move r) (Move s) (Rewrite a w) (Move r') (Rewrite p q) (Rewrite i j) z zs x y v a1 a2 a3 h1 h2 is same here =
    absurd a2
three_by (Rewrite b u) (Rewrite p q) (Rewrite a w) (Rewrite b' u') (Rewrite p' q')
    (Rewrite i j) z zs x y v a1 a2 a3 h1 h2 is same here =
    let first : b ≡ b' = cc in
    let second : p ≡ p' = cc in
    let third : i ≡ z = cc in
    ((h1 ∙ first, h2 ∙ second), sym (third ∙ here))
three_by (Rewrite b u) (Move s) (Rewrite a w) (Rewrite b' u') (Move s') (Rewrite i j) z zs x y v a1 a2 a3 h1 h2 is same
    here =
    let first : b ≡ b' = cc in
    let third : i ≡ z = cc in
    ((h1 ∙ first, tt), sym (third ∙ here))
three_by (Move r) (Rewrite p q) (Rewrite a w) (Move r') (Rewrite p' q') (Rewrite i j) z zs x y v a1 a2 a3 h1 h2 is same
    here =
    let second : p ≡ p' = cc in
    let third : i ≡ z = cc in
    ((tt, h2 ∙ second), sym (third ∙ here))
three_by (Move r) (Move s) (Rewrite a w) (Move r') (Move s') (Rewrite i j) z zs x y v a1 a2 a3 h1 h2 is same here =
    let third : i ≡ z = cc in
    ((tt, tt), sym (third ∙ here))

-- it wants the tapes up to this one as they are
pub admits_by : (r x : Rule ℕ) (c : Configuration ℕ) (t z : ℕ) (zs : List ℕ) → IsTape t → HaveSameTapes r x
    → AdmitsBefore r c t → DeedReads (deed_at r t)
    → symbols_read (reads_of x) ≡ symbols_before r t ++ (z ∷ zs) → z ≡ scanned (tape_of c t)
    → AdmitsBefore x c t × DeedApplies (deed_at x t) (tape_of c t)
admits_by r x c zero z zs is alike before reads same here = absurd (let low = is.low in omega arith)
admits_by r x c (suc zero) z zs is alike before reads same here =
    (tt, one_by r.one x.one (x.two ∷ x.three ∷ []) z zs c.one alike.0 reads same here)
admits_by r x c (suc (suc zero)) z zs is alike before reads same here =
    two_by r.one r.two x.one x.two (x.three ∷ []) z zs c.one c.two alike.0 alike.1.0 before reads same here
admits_by r x c (suc (suc (suc zero))) z zs is alike before reads same here =
    three_by r.one r.two r.three x.one x.two x.three z zs c.one c.two c.three alike.0 alike.1.0 alike.1.1.0 before.0
    before.1 reads same here
admits_by r x c (suc (suc (suc (suc t)))) z zs is alike before reads same here = absurd (let high = is.high in
    omega arith)

-- ---- a quadruple's reads, cut at a tape that it reads

one_cut : (d : Deed) (ds : List Deed) → DeedReads d
    → (a : ℕ) × (rest : List (ℕ × ℕ)) × (reads 1 (d ∷ ds) ≡ (1, a) ∷ rest)
one_cut (Rewrite a w) ds is = (a, reads 2 ds, refl)
one_cut (Move s) ds is = absurd is

two_cut : (d f : Deed) (ds : List Deed) → DeedReads f
    → (a : ℕ) × (rest : List (ℕ × ℕ)) × (reads 1 (d ∷ f ∷ ds) ≡ reads 1 (d ∷ []) ++ ((2, a) ∷ rest))
two_cut d (Move s) ds is = absurd is
two_cut (Rewrite b v) (Rewrite a w) ds is = (a, reads 3 ds, refl)
two_cut (Move s) (Rewrite a w) ds is = (a, reads 3 ds, refl)

three_cut : (d f n : Deed) → DeedReads n
    → (a : ℕ) × (rest : List (ℕ × ℕ)) × (reads 1 (d ∷ f ∷ n ∷ []) ≡ reads 1 (d ∷ f ∷ []) ++ ((3, a) ∷ rest))
three_cut d f (Move s) is = absurd is
three_cut (Rewrite b v) (Rewrite p q) (Rewrite a w) is = (a, [], refl)
three_cut (Rewrite b v) (Move s) (Rewrite a w) is = (a, [], refl)
three_cut (Move s) (Rewrite p q) (Rewrite a w) is = (a, [], refl)
three_cut (Move s) (Move u) (Rewrite a w) is = (a, [], refl)

pub reads_cut : (r : Rule ℕ) (t : ℕ) → IsTape t → DeedReads (deed_at r t) → (a : ℕ) × (rest : List (ℕ × ℕ))
    × (reads_of r ≡ reads 1 (deeds_before r t) ++ ((t, a) ∷ rest))
reads_cut r zero is reads = absurd (let low = is.low in omega arith)
reads_cut r (suc zero) is reads = one_cut r.one (r.two ∷ r.three ∷ []) reads
reads_cut r (suc (suc zero)) is reads = two_cut r.one r.two (r.three ∷ []) reads
reads_cut r (suc (suc (suc zero))) is reads = three_cut r.one r.two r.three reads
reads_cut r (suc (suc (suc (suc t)))) is reads = absurd (let high = is.high in omega arith)

-- so are its commands
cut_at : (a : ℕ) (front bs rest : List (ℕ × ℕ)) (p : ℕ × ℕ) (after : List Stop)
    → read_stops a front (bs ++ (p ∷ rest)) after
    ≡ read_stops a front bs []
    ++ (stop_at (Reads a (symbols_read (front ++ bs))) p.0 Read (Answer p.1)
    ∷ read_stops a ((front ++ bs) ++ (p ∷ [])) rest after)
cut_at a front [] rest p after =
    ap (λ b. stop_at (Reads a (symbols_read b)) p.0 Read (Answer p.1) ∷ read_stops a (b ++ (p ∷ [])) rest after)
    (sym (append-nil front))
cut_at a front (q ∷ bs) rest p after =
    ap (λ (zs : List Stop). stop_at (Reads a (symbols_read front)) q.0 Read (Answer q.1) ∷ zs)
    (cut_at a (front ++ (q ∷ [])) bs rest p after
    ∙ ap (λ b. read_stops a (front ++ (q ∷ [])) bs []
    ++ (stop_at (Reads a (symbols_read b)) p.0 Read (Answer p.1) ∷ read_stops a (b ++ (p ∷ [])) rest after))
    (append_assoc front (q ∷ []) bs))

pub stops_cut : (n : ℕ) (r : Rule ℕ) (t a : ℕ) (rest : List (ℕ × ℕ))
    → reads_of r ≡ reads 1 (deeds_before r t) ++ ((t, a) ∷ rest)
    → stops_of n r ≡ read_stops r.from [] (reads 1 (deeds_before r t)) []
    ++ (stop_at (Reads r.from (symbols_before r t)) t Read (Answer a)
    ∷ read_stops r.from (reads 1 (deeds_before r t) ++ ((t, a) ∷ [])) rest
    (shift_stops n (shifts_of r) (write_stops r.to (writes_of r))))
stops_cut n r t a rest split =
    let after = shift_stops n (shifts_of r) (write_stops r.to (writes_of r)) in
    ap (λ rs. read_stops r.from [] rs after) split ∙ cut_at r.from [] (reads 1 (deeds_before r t)) rest (t, a) after

-- ---- the tapes obey the reads before

tape_is : (t : ℕ) → 0 < t → t ≤ 3 → IsTape t
tape_is t low high = record { low = low; high = high }

pub obeys : (m : Quadruples) (l : Limits) (r : Rule ℕ) (c : Configuration ℕ) (t : ℕ) → AdmitsBefore r c t
    → (j : ℕ) × AllDo m l (read_stops r.from [] (reads 1 (deeds_before r t)) []) c (taken_before r c t) j
obeys m l r c zero before = (0, (refl, refl))
obeys m l r c (suc zero) before = (0, (refl, refl))
obeys m l r c (suc (suc zero)) before = (
  read_moves (head_of l 1 c.one) r.one + 0,
  obey_read m l r.from [] [] r.one [] 1 c (taken_before r c 2) 0 (tape_is 1 (omega arith) (omega arith)) before
      (λ b. (refl, refl)),
)
obeys m l r c (suc (suc (suc t))) before = (
  read_moves (head_of l 1 c.one) r.one + (read_moves (head_of l 2 c.two) r.two + 0),
  obey_read m l r.from [] [] r.one (r.two ∷ []) 1 c (taken_before r c 3) (read_moves (head_of l 2 c.two) r.two + 0)
      (tape_is 1 (omega arith) (omega arith)) before.0
      (λ b. obey_read m l r.from b [] r.two [] 2 (put_tape c 1 (read_by r.one c.one)) (taken_before r c 3) 0
      (tape_is 2 (omega arith) (omega arith)) before.1 (λ d. (refl, refl))),
)

-- and the tape that is read next is as before
pub untouched : (r : Rule ℕ) (c : Configuration ℕ) (t : ℕ) → IsTape t → tape_of (taken_before r c t) t ≡ tape_of c t
untouched r c zero is = absurd (let low = is.low in omega arith)
untouched r c (suc zero) is = refl
untouched r c (suc (suc zero)) is = refl
untouched r c (suc (suc (suc zero))) is = refl
untouched r c (suc (suc (suc (suc t)))) is = absurd (let high = is.high in omega arith)
