-- The states of the control of Bennett's machine, listed.
use Rattle.std.proofs.Common.{◌≡◌, ◌≢◌, ◌⊎◌, inl, inr, Bool, true, false, ◌==◌, ◌||◌, not, slice_get, get_or, ℕ, zero}
use Rattle.std.proofs.Common.{suc, ◌+◌, ◌<◌, ◌≤◌, List, [], ◌∷◌, ◌++◌, length, map, reverse, Some, refl, sym, ap, subst}
use Rattle.std.proofs.Common.{◌∙◌, arith, eq-eqb}
use Rattle.std.specs.List.{filter, range_with_len}
use Rattle.std.proofs.lemmas.Bool.{eqb-true}
use Rattle.std.proofs.lemmas.Bool.Decides.{eqb_tells}
use Rattle.std.proofs.lemmas.List.{map-append, reverse-append, reverse-reverse}
use Rattle.std.proofs.lemmas.Option.{slice_get-get_or}
use Rattle.bn_machine.specs.Machine.{Program, start_of, final_of as final_state}
use Rattle.bn_lists.specs.Lists.{nth, IsIn, Has}
use Rattle.bn_lists.proofs.ListLemmas.{nth-get_or}
use Rattle.bn_machine.specs.declared.quint.Quint.{Quint}
use Rattle.bn_machine.specs.declared.quint.Shift.TheVariants as way
use Rattle.bn_machine.specs.declared.quint.Side.{Side}
use Rattle.bn_quad.specs.Quadruples.{Deed, Rewrite, Move, Quadruples, Rule, deeds_of, IsQuadMachine, final_state_of}
use Rattle.bn_quad.specs.Calls.{IsUniformMachine}
use Rattle.bn_network.specs.Controls.{ControlState, Begin, End, Reads, Shifts, Writes, Occurs, is_begin, is_end}
use Rattle.bn_network.specs.Controls.{is_open, is_read, is_shift, is_write, IsNotLeft, reads_of, shifts_of, writes_of}
use Rattle.bn_network.specs.Controls.{reads, shifts, rising, symbols_read}
use Rattle.bn_network.proofs.ExistingLemmas.{left_or_not}
use Rattle.bn_network.proofs.ListLemmas.{same_length as same_symbols}
use Rattle.bn_network.proofs.RangeLemmas.{rule_in_range}
use Rattle.bn_network.proofs.UniformLemmas.{same_domain, same_range}
use Rattle.bn_lists.proofs.MemberLemmas.{in_front, behind, of_two}
use Rattle.bn_bennett_laws.specs.List.{bennett, goes_right, goes_left, writes_ahead, shifts_ahead, begins_copy}
use Rattle.bn_bennett_laws.specs.List.{turns_left, ends_copy, shifts_back, writes_back}
use Rattle.bn_bennett_laws.proofs.ListLemmas.{has_goes_right, has_goes_left, has_writes_ahead, has_shifts_ahead}
use Rattle.bn_bennett_laws.proofs.ListLemmas.{has_begins_copy, has_turns_left, has_ends_copy, has_shifts_back}
use Rattle.bn_bennett_laws.proofs.ListLemmas.{has_writes_back}
use Rattle.bn_bennett_laws.proofs.Counts.{list_has_names}
use Rattle.bn_bennett_laws.specs.Names.{NumbersStates, IsNameOf}
use Rattle.bn_bennett_laws.specs.Renamed.{rename, renamed, name_at}
use Rattle.bn_bennett_laws.proofs.RenamedLemmas.{nth_renamed, nth_before}
use Rattle.bn_bennett_laws.specs.Stages.{IsStandardMachine}
use Rattle.bn_bennett_laws.specs.declared.name.Name.{Name}
use Rattle.bn_bennett_laws.specs.declared.name.Name.TheVariants.{Compute, ComputeWithin, GoRight, CopyLetter, GoLeft}
use Rattle.bn_bennett_laws.specs.declared.name.Name.TheVariants.{PassLetter, Retrace, RetraceWithin}
use Rattle.bn_headline.proofs.Told.{is_reader, is_written, low, later, earlier, ReadsTell, WritesTell, Tells, is_left}
use Rattle.bn_lists.proofs.ApartLemmas.{IsApart, split_at, joined, mapped, from_mapped, apart_mapped, filtered}
use Rattle.bn_lists.proofs.ApartLemmas.{from_filtered, apart_filtered, range_member, from_range, range_apart}
use Rattle.bn_headline.proofs.AlongLemmas.{along, along_member, from_along, apart_along}
use Rattle.bn_headline.proofs.PrefixLemmas.{inits, inits_apart, init_member, from_init, tails, tail_member}
use Rattle.bn_headline.proofs.PrefixLemmas.{from_tail, tails_apart}
use Rattle.bn_headline.proofs.ToldLemmas.{rules_tell, any_found}

-- ---- the states of one quadruple

-- the reads after the first
abbrev pub more_reads : ℕ → List (ℕ × ℕ) → List ControlState
more_reads a [] = []
more_reads a (q ∷ l) = map (λ (b : List ℕ). Reads a (q.1 ∷ b)) (inits (symbols_read l))

abbrev pub read_states : ℕ → Rule ℕ → List ControlState
read_states n r = more_reads r.from (reads_of r)

abbrev pub shift_states : ℕ → Rule ℕ → List ControlState
shift_states n r = map (λ (s : ℕ × Side). Shifts n s.0) (shifts_of r)

-- the writes before the last
abbrev pub write_state : ℕ → ((ℕ × ℕ) × List (ℕ × ℕ)) → ControlState
write_state a v = Writes a v.0.0 (symbols_read v.1)

abbrev pub write_states : ℕ → Rule ℕ → List ControlState
write_states n r = map (write_state r.to) (tails (writes_of r))

-- shifted tapes rise
shifts_above : (t : ℕ) (ds : List Deed) (s : ℕ × Side) → Has (shifts t ds) s → t ≤ s.0
shifts_above t [] s h = absurd h
shifts_above t (Rewrite r w ∷ ds) s h = let more = shifts_above (suc t) ds s h in omega arith
shifts_above t (Move way.Left ∷ ds) s (inl e) = let same = ap (λ (v : ℕ × Side). v.0) e in omega arith
shifts_above t (Move way.Left ∷ ds) s (inr h) = let more = shifts_above (suc t) ds s h in omega arith
shifts_above t (Move way.Stay ∷ ds) s h = let more = shifts_above (suc t) ds s h in omega arith
shifts_above t (Move way.Right ∷ ds) s (inl e) = let same = ap (λ (v : ℕ × Side). v.0) e in omega arith
shifts_above t (Move way.Right ∷ ds) s (inr h) = let more = shifts_above (suc t) ds s h in omega arith

shift_new : (n t : ℕ) (ds : List Deed) → Has (map (λ (s : ℕ × Side). Shifts n s.0) (shifts (suc t) ds)) (Shifts n t) → ⊥
shift_new n t ds h =
    let found = from_mapped (λ (s : ℕ × Side). Shifts n s.0) (shifts (suc t) ds) (Shifts n t) h in
    let above = shifts_above (suc t) ds found.0 found.1 in
    let e = found.2 in
    let same : found.0.0 ≡ t = cc in
    omega arith

shifts_apart : (n t : ℕ) (ds : List Deed) → IsApart (map (λ (s : ℕ × Side). Shifts n s.0) (shifts t ds))
shifts_apart n t [] = tt
shifts_apart n t (Rewrite r w ∷ ds) = shifts_apart n (suc t) ds
shifts_apart n t (Move way.Left ∷ ds) = (shift_new n t ds, shifts_apart n (suc t) ds)
shifts_apart n t (Move way.Stay ∷ ds) = shifts_apart n (suc t) ds
shifts_apart n t (Move way.Right ∷ ds) = (shift_new n t ds, shifts_apart n (suc t) ds)

-- ---- lists of symbols

-- a list turned round that ends with an element
last_first : (l before : List (ℕ × ℕ)) (p : ℕ × ℕ) → reverse l ≡ before ++ (p ∷ []) → l ≡ p ∷ reverse before
last_first l before p e = sym (reverse-reverse l) ∙ ap reverse e ∙ reverse-append before (p ∷ [])

first_last : (l : List (ℕ × ℕ)) (p : ℕ × ℕ) → reverse (p ∷ l) ≡ reverse l ++ (p ∷ [])
first_last l p = reverse-append (p ∷ []) l

abbrev last_of : ℕ → List ℕ → ℕ
last_of d [] = d
last_of d (x ∷ l) = last_of x l

last_back : (d : ℕ) (front : List ℕ) (x : ℕ) (l : List ℕ) → last_of d (front ++ x ∷ l) ≡ last_of x l
last_back d [] x l = refl
last_back d (y ∷ front) x l = last_back y front x l

-- the last quadruple leads to the final state
final_rule : (rs : List (Rule ℕ)) → 0 < length rs → (n : ℕ) × (r : Rule ℕ) × (nth rs n ≡ Some r)
    × (final_state_of rs ≡ r.to)
final_rule [] some = absurd (omega arith)
final_rule (r ∷ []) some = (1, r, refl, refl)
final_rule (r ∷ (s ∷ rs)) some = let more = final_rule (s ∷ rs) (omega arith) in by more.0 more.1 more.2 more.3
  where
    by : (n : ℕ) (t : Rule ℕ) → nth (s ∷ rs) n ≡ Some t → final_state_of (s ∷ rs) ≡ t.to
        → (n : ℕ) × (t : Rule ℕ) × (nth (r ∷ (s ∷ rs)) n ≡ Some t) × (final_state_of (r ∷ (s ∷ rs)) ≡ t.to)
    by zero t e f = absurd (cc)
    by (suc i) t e f = (suc (suc i), t, e, f)

-- which class of states this is
abbrev class : ControlState → ℕ
class Begin = 0
class End = 1
class (Reads a []) = 2
class (Reads a (x ∷ b)) = 3
class (Shifts n t) = 4
class (Writes a t []) = 5
class (Writes a t (x ∷ u)) = 6

module _ (p : Program) (standard : IsStandardMachine p) (order : List Name) (numbers : NumbersStates (bennett p) order)
    (m : Quadruples) (is : IsQuadMachine m) (u : IsUniformMachine m)
    (rules : rename (name_at GoRight order) m.rules ≡ bennett p) (states : m.states ≡ length order)
    (final : name_at GoRight order (final_state_of m.rules) ≡ Retrace (start_of p.quints)) where
  abbrev pub named : ℕ → Name
  named a = name_at GoRight order a

  abbrev pub readers : List ℕ
  readers = filter (λ a. is_reader p (named a)) (range_with_len 0 m.states)

  abbrev pub written : List ℕ
  written = filter (λ a. is_written p (named a)) (range_with_len 0 m.states)

  abbrev first_state : ℕ → ControlState
  first_state a = Reads a []

  abbrev last_state : ℕ → ControlState
  last_state a = Writes a (low (named a)) []

  abbrev pub firsts : List ControlState
  firsts = map first_state readers

  abbrev pub lasts : List ControlState
  lasts = map last_state written

  abbrev pub more_read : List ControlState
  more_read = along read_states 1 m.rules

  abbrev pub shifted : List ControlState
  shifted = along shift_states 1 m.rules

  abbrev pub more_written : List ControlState
  more_written = along write_states 1 m.rules

  abbrev pub listed : List ControlState
  listed = Begin ∷ (End ∷ (firsts ++ (more_read ++ (shifted ++ (lasts ++ more_written)))))

  -- ---- names and rules

  name_here : (a : ℕ) → a < m.states → slice_get order a ≡ Some (named a)
  name_here a low = slice_get-get_or order a GoRight (omega arith)

  one_name : (a b : ℕ) → a < m.states → b < m.states → named a ≡ named b → a ≡ b
  one_name a b x y same = numbers.apart a b (named b) (name_here a x ∙ ap (λ v. Some v) same) (name_here b y)

  pub tells : (n : ℕ) (r : Rule ℕ) → nth m.rules n ≡ Some r → Tells p (renamed named r)
  tells n r here = rules_tell p standard (renamed named r) (record
      { place = n; stands = subst (λ l. nth l n ≡ Some (renamed named r)) rules (nth_renamed named m.rules n r here) })

  -- a quadruple of the list, with numbers
  pub kept_rule : (s : Rule Name) → IsIn (bennett p) s → (n : ℕ) × (r : Rule ℕ) × (nth m.rules n ≡ Some r)
      × (renamed named r ≡ s)
  kept_rule s h = let found = nth_before named m.rules h.place s
      (subst (λ l. nth l h.place ≡ Some s) (sym rules) h.stands) in (h.place, found.0, found.1, found.2)

  from_low : (n : ℕ) (r : Rule ℕ) → nth m.rules n ≡ Some r → r.from < m.states
  from_low n r here = (rule_in_range m is n r here).from

  to_low : (n : ℕ) (r : Rule ℕ) → nth m.rules n ≡ Some r → r.to < m.states
  to_low n r here = (rule_in_range m is n r here).to

  final_low : final_state_of m.rules < m.states
  final_low = let last = final_rule m.rules is.some in let below = to_low last.0 last.1 last.2 in let same =
      last.3 in omega arith

  not_final : (a : ℕ) → is_reader p (named a) ≡ true → a ≢ final_state_of m.rules
  not_final a reads same =
      let name : named a ≡ Retrace (start_of p.quints) = ap named same ∙ final in
      let test : not (start_of p.quints == start_of p.quints) ≡ true = ap (is_reader p) (sym name) ∙ reads in
      let tie = eq-eqb (start_of p.quints) (start_of p.quints) refl in
      let none : false ≡ true = ap not (sym tie) ∙ test in
      cc

  -- a state that isn't left, and isn't final, is a reader
  left_by : (a : ℕ) (s : Rule Name) → a < m.states → named a ≡ s.from → IsIn (bennett p) s → IsNotLeft m a → ⊥
  left_by a s low same h none =
      let kept = kept_rule s h in
      let from : named kept.1.from ≡ s.from = ap (λ (r : Rule Name). r.from) kept.3 in
      none.none kept.0 kept.1 kept.2 (one_name kept.1.from a (from_low kept.0 kept.1 kept.2) low (from ∙ sym same))

  open_reader : (a : ℕ) → a < m.states → a ≢ final_state_of m.rules → IsNotLeft m a → is_reader p (named a) ≡ true
  open_reader a low other none = by (named a) refl
    where
      by : (n : Name) → named a ≡ n → is_reader p n ≡ true
      by (Compute j) e = refl
      by (ComputeWithin k) e = refl
      by GoRight e = absurd (left_by a goes_right low e (has_goes_right p) none)
      by CopyLetter e = refl
      by GoLeft e = absurd (left_by a goes_left low e (has_goes_left p) none)
      by PassLetter e = refl
      by (RetraceWithin k) e = refl
      by (Retrace j) e = elim (eqb_tells j (start_of p.quints)) [
        | inl same ↦ absurd (other (one_name a (final_state_of m.rules) low final_low
            (e ∙ ap Retrace same.1 ∙ sym final)))
        | inr not_same ↦ ap not not_same.0
      ]

  -- what is read and written along a quadruple
  before_tells : (n : ℕ) (r : Rule ℕ) → nth m.rules n ≡ Some r → ReadsTell p (named r.from) (reads_of r)
  before_tells n r here = (tells n r here).before

  after_tells : (n : ℕ) (r : Rule ℕ) → nth m.rules n ≡ Some r → WritesTell p (named r.to) (rising 1 (deeds_of r))
  after_tells n r here = (tells n r here).after

  -- ---- the parts of the list

  in_firsts : (x : ControlState) → Has firsts x → Has listed x
  in_firsts x h = inr (inr (in_front firsts (more_read ++ (shifted ++ (lasts ++ more_written))) x h))

  in_reads : (x : ControlState) → Has more_read x → Has listed x
  in_reads x h = inr (inr (behind firsts (more_read ++ (shifted ++ (lasts ++ more_written))) x
      (in_front more_read (shifted ++ (lasts ++ more_written)) x h)))

  in_shifts : (x : ControlState) → Has shifted x → Has listed x
  in_shifts x h = inr (inr (behind firsts (more_read ++ (shifted ++ (lasts ++ more_written))) x
      (behind more_read (shifted ++ (lasts ++ more_written)) x (in_front shifted (lasts ++ more_written) x h))))

  in_lasts : (x : ControlState) → Has lasts x → Has listed x
  in_lasts x h = inr (inr (behind firsts (more_read ++ (shifted ++ (lasts ++ more_written))) x
      (behind more_read (shifted ++ (lasts ++ more_written)) x (behind shifted (lasts ++ more_written) x
      (in_front lasts more_written x h)))))

  in_writes : (x : ControlState) → Has more_written x → Has listed x
  in_writes x h = inr (inr (behind firsts (more_read ++ (shifted ++ (lasts ++ more_written))) x
      (behind more_read (shifted ++ (lasts ++ more_written)) x (behind shifted (lasts ++ more_written) x
      (behind lasts more_written x h)))))

  -- ---- each state that occurs is listed

  reader_in : (a : ℕ) → a < m.states → is_reader p (named a) ≡ true → Has listed (Reads a [])
  reader_in a low reads = in_firsts (Reads a []) (mapped first_state readers a
      (filtered (λ b. is_reader p (named b)) (range_with_len 0 m.states) a
      (range_member 0 m.states a (omega arith) (omega arith)) reads))

  written_in : (a t : ℕ) → a < m.states → is_written p (named a) ≡ true → t ≡ low (named a) → Has listed (Writes a t [])
  written_in a t few writes tape = subst (λ v. Has listed (Writes a v [])) (sym tape)
      (in_lasts (last_state a) (mapped last_state written a (filtered (λ b. is_written p (named b))
      (range_with_len 0 m.states) a (range_member 0 m.states a (omega arith) (omega arith)) writes)))

  read_in : (n : ℕ) (r : Rule ℕ) → nth m.rules n ≡ Some r → (before rest : List (ℕ × ℕ)) (q : ℕ × ℕ)
      → reads_of r ≡ before ++ (q ∷ rest) → Has listed (Reads r.from (symbols_read before))
  read_in zero r here before rest q split = absurd (cc)
  read_in (suc i) r here [] rest q split = reader_in r.from (from_low (suc i) r here)
      (subst (ReadsTell p (named r.from)) split (before_tells (suc i) r here)).0
  read_in (suc i) r here (b ∷ before) rest q split =
      let symbols : symbols_read (before ++ (q ∷ rest)) ≡ symbols_read before ++ (q.1 ∷ symbols_read rest) =
      map-append (λ (v : ℕ × ℕ). v.1) before (q ∷ rest) in
      let prefix = init_member (symbols_read (before ++ (q ∷ rest))) (symbols_read before) (symbols_read rest) q.1
      symbols in
      let one = mapped (λ (c : List ℕ). Reads r.from (b.1 ∷ c)) (inits (symbols_read (before ++ (q ∷ rest))))
      (symbols_read before) prefix in
      in_reads (Reads r.from (symbols_read (b ∷ before))) (along_member read_states 1 m.rules i r
      (Reads r.from (symbols_read (b ∷ before))) here (subst (λ l. Has (more_reads r.from l)
      (Reads r.from (symbols_read (b ∷ before)))) (sym split) one))

  shift_in : (n : ℕ) (r : Rule ℕ) → nth m.rules n ≡ Some r → (before rest : List (ℕ × Side)) (s : ℕ × Side)
      → shifts_of r ≡ before ++ (s ∷ rest) → Has listed (Shifts n s.0)
  shift_in zero r here before rest s split = absurd (cc)
  shift_in (suc i) r here before rest s split =
      let place : 1 + i ≡ suc i = omega arith in
      let one : Has (shifts_of r) s = subst (λ l. Has l s) (sym split) (behind before (s ∷ rest) s (inl refl)) in
      in_shifts (Shifts (suc i) s.0) (along_member shift_states 1 m.rules i r (Shifts (suc i) s.0) here
      (subst (λ k. Has (shift_states (1 + i) r) (Shifts k s.0)) place
      (mapped (λ (v : ℕ × Side). Shifts (1 + i) v.0) (shifts_of r) s one)))

  write_in : (n : ℕ) (r : Rule ℕ) → nth m.rules n ≡ Some r → (before rest : List (ℕ × ℕ)) (q : ℕ × ℕ)
      → writes_of r ≡ before ++ (q ∷ rest) → Has listed (Writes r.to q.0 (symbols_read rest))
  write_in zero r here before rest q split = absurd (cc)
  write_in (suc i) r here before [] q split =
      let lowest = last_first (rising 1 (deeds_of r)) before q split in
      let told = subst (WritesTell p (named r.to)) lowest (after_tells (suc i) r here) in
      written_in r.to q.0 (to_low (suc i) r here) told.0 told.1
  write_in (suc i) r here before (c ∷ rest) q split =
      let one = mapped (write_state r.to) (tails (writes_of r)) (q, c ∷ rest)
      (tail_member (writes_of r) before rest q c split) in
      in_writes (Writes r.to q.0 (symbols_read (c ∷ rest))) (along_member write_states 1 m.rules i r
      (Writes r.to q.0 (symbols_read (c ∷ rest))) here one)

  pub occurs_listed : (q : ControlState) → Occurs m q → Has listed q
  occurs_listed q (is_begin e) = inl e
  occurs_listed q (is_end e) = inr (inl e)
  occurs_listed q (is_open a few other none e) = subst (λ x. Has listed x) (sym e)
      (reader_in a few (open_reader a few other none))
  occurs_listed q (is_read n r here before rest v split e) = subst (λ x. Has listed x) (sym e)
      (read_in n r here before rest v split)
  occurs_listed q (is_shift n r here before rest v split e) =
      subst (λ x. Has listed x) (sym e) (shift_in n r here before rest v split)
  occurs_listed q (is_write n r here before rest v split e) =
      subst (λ x. Has listed x) (sym e) (write_in n r here before rest v split)

  -- ---- each state that is listed occurs

  from_firsts : (x : ControlState) → Has firsts x → Occurs m x
  from_firsts x h =
      let found = from_mapped first_state readers x h in
      let a = found.0 in
      let reads = from_filtered (λ b. is_reader p (named b)) (range_with_len 0 m.states) found.0 found.1 in
      let few = (from_range 0 m.states found.0 reads.0).1 in
      subst (Occurs m) found.2 (by found.0 (omega arith) reads.1 (left_or_not m found.0))
    where
      reading : (a n : ℕ) (r : Rule ℕ) → nth m.rules n ≡ Some r → r.from ≡ a → is_reader p (named a) ≡ true
          → (l : List (ℕ × ℕ)) → reads_of r ≡ l → Occurs m (Reads a [])
      reading a n r here from reads [] e =
          let none : is_reader p (named a) ≡ false = subst (λ b. is_reader p (named b) ≡ false) from
          (subst (ReadsTell p (named r.from)) e (before_tells n r here)) in
          absurd (let both = sym reads ∙ none in cc)
      reading a n r here from reads (q ∷ l) e = is_read n r here [] l q e (ap (λ b. Reads b []) (sym from))

      by : (a : ℕ) → a < m.states → is_reader p (named a) ≡ true
          → ((n : ℕ) × (r : Rule ℕ) × (nth m.rules n ≡ Some r) × (r.from ≡ a)) ⊎ IsNotLeft m a → Occurs m (Reads a [])
      by a few reads (inl f) = reading a f.0 f.1 f.2 f.3 reads (reads_of f.1) refl
      by a few reads (inr none) = is_open a few (not_final a reads) none refl

  from_reads : (x : ControlState) → Has more_read x → Occurs m x
  from_reads x h =
      let found = from_along read_states 1 m.rules x h in
      by found.0 found.1 found.2 (reads_of found.1) refl found.3
    where
      by : (i : ℕ) (r : Rule ℕ) → slice_get m.rules i ≡ Some r → (l : List (ℕ × ℕ)) → reads_of r ≡ l
          → Has (more_reads r.from l) x → Occurs m x
      by i r here [] e h = absurd h
      by i r here (q ∷ l) e h =
          let found = from_mapped (λ (b : List ℕ). Reads r.from (q.1 ∷ b)) (inits (symbols_read l)) x h in
          let split = from_init (λ (v : ℕ × ℕ). v.1) l found.0 found.1 in
          is_read (suc i) r here (q ∷ split.0) split.2 split.1 (e ∙ ap (λ k. q ∷ k) split.3)
          (sym found.2 ∙ ap (λ b. Reads r.from (q.1 ∷ b)) (sym split.4))

  from_shifts : (x : ControlState) → Has shifted x → Occurs m x
  from_shifts x h =
      let found = from_along shift_states 1 m.rules x h in
      let i = found.0 in
      let place : 1 + found.0 ≡ suc found.0 = omega arith in
      let one = from_mapped (λ (s : ℕ × Side). Shifts (1 + found.0) s.0) (shifts_of found.1) x found.3 in
      let split = split_at (shifts_of found.1) one.0 one.1 in
      is_shift (suc found.0) found.1 found.2 split.0 split.1 one.0 split.2
      (sym one.2 ∙ ap (λ k. Shifts k one.0.0) place)

  from_writes : (x : ControlState) → Has more_written x → Occurs m x
  from_writes x h =
      let found = from_along write_states 1 m.rules x h in
      let one = from_mapped (write_state found.1.to) (tails (writes_of found.1)) x found.3 in
      let split = from_tail (writes_of found.1) one.0.0 one.0.1 one.1 in
      is_write (suc found.0) found.1 found.2 split.0 one.0.1 one.0.0 split.3 (sym one.2)

  -- a quadruple that writes and leads to a state
  record HasWriter (name : Name) : Type 0 where
    rule : Rule Name
    stands : IsIn (bennett p) rule
    to : rule.to ≡ name
    first : ℕ × ℕ
    rest : List (ℕ × ℕ)
    writes : rising 1 (deeds_of rule) ≡ first ∷ rest

  named_here : (a : ℕ) → a < m.states → IsNameOf p (named a)
  named_here a few = (list_has_names p standard.machine.some (named a)).0 (numbers.only a (named a) (name_here a few))

  quint_at : (k : ℕ) → 0 < k → k ≤ length p.quints → (q : Quint) × (nth p.quints k ≡ Some q)
  quint_at k few high = by p.quints k few high
    where
      by : (qs : List Quint) (k : ℕ) → 0 < k → k ≤ length qs → (q : Quint) × (nth qs k ≡ Some q)
      by qs zero few high = absurd (omega arith)
      by [] (suc i) few high = absurd (omega arith)
      by (q ∷ qs) (suc i) few high = (get_or (q ∷ qs) i q, nth-get_or (q ∷ qs) i q (omega arith))

  writer : (a : ℕ) → a < m.states → is_written p (named a) ≡ true → HasWriter (named a)
  writer a few writes = by (named a) (named_here a few) writes
    where
      by_or : (j : ℕ) (b : Bool) → (j == final_state p.quints) ≡ b → (b || is_left p.quints j) ≡ true
          → HasWriter (Retrace j)
      by_or j true e h = record {
        rule = ends_copy (final_state p.quints) (length p.quints);
        stands = has_ends_copy p;
        to = ap Retrace (sym (eqb-true j (final_state p.quints) e));
        first = _;
        rest = _;
        writes = refl;
      }
      by_or j false e h =
          let found = any_found (λ q. q.state == j) p.quints h in
          let same = eqb-true found.1.state j found.3 in
          record {
            rule = writes_back (suc found.0) found.1;
            stands = has_writes_back p (suc found.0) found.1 found.2;
            to = ap Retrace same;
            first = _;
            rest = _;
            writes = refl;
          }

      by : (n : Name) → IsNameOf p n → is_written p n ≡ true → HasWriter n
      by (Compute j) h w =
          let found = any_found (λ q. q.next == j) p.quints w in
          let same = eqb-true found.1.next j found.3 in
          record {
            rule = shifts_ahead (suc found.0) found.1;
            stands = has_shifts_ahead p (suc found.0) found.1 found.2;
            to = ap Compute same;
            first = _;
            rest = _;
            writes = refl;
          }
      by (ComputeWithin k) h w = let q = quint_at k h.0 h.1 in record {
        rule = writes_ahead k q.0;
        stands = has_writes_ahead p k q.0 q.1;
        to = refl;
        first = _;
        rest = _;
        writes = refl;
      }
      by GoRight h w = record {
        rule = begins_copy (final_state p.quints) (length p.quints);
        stands = has_begins_copy p;
        to = refl;
        first = _;
        rest = _;
        writes = refl;
      }
      by CopyLetter h w = absurd (cc)
      by GoLeft h w = record {
        rule = turns_left (length p.quints);
        stands = has_turns_left p;
        to = refl;
        first = _;
        rest = _;
        writes = refl;
      }
      by PassLetter h w = absurd (cc)
      by (Retrace j) h w = by_or j (j == final_state p.quints) refl w
      by (RetraceWithin k) h w = let q = quint_at k h.0 h.1 in record {
        rule = shifts_back k q.0;
        stands = has_shifts_back p k q.0 q.1;
        to = refl;
        first = _;
        rest = _;
        writes = refl;
      }

  from_lasts : (x : ControlState) → Has lasts x → Occurs m x
  from_lasts x h =
      let found = from_mapped last_state written x h in
      let pass = from_filtered (λ b. is_written p (named b)) (range_with_len 0 m.states) found.0 found.1 in
      let few = (from_range 0 m.states found.0 pass.0).1 in
      subst (Occurs m) found.2 (by found.0 (omega arith) (writer found.0 (omega arith) pass.1))
    where
      by : (a : ℕ) → a < m.states → HasWriter (named a) → Occurs m (Writes a (low (named a)) [])
      by a few w =
          let kept = kept_rule w.rule w.stands in
          let to : named kept.1.to ≡ named a = ap (λ (r : Rule Name). r.to) kept.3 ∙ w.to in
          let same = one_name kept.1.to a (to_low kept.0 kept.1 kept.2) few to in
          let writes : rising 1 (deeds_of kept.1) ≡ w.first ∷ w.rest =
          ap (λ (r : Rule Name). rising 1 (deeds_of r)) kept.3 ∙ w.writes in
          let told = subst (WritesTell p (named kept.1.to)) writes (after_tells kept.0 kept.1 kept.2) in
          let split : writes_of kept.1 ≡ reverse w.rest ++ (w.first ∷ []) =
          ap reverse writes ∙ first_last w.rest w.first in
          is_write kept.0 kept.1 kept.2 (reverse w.rest) [] w.first split
          (λ i. Writes (sym same i) ((ap low (sym to) ∙ sym told.1) i) [])

  pub listed_occurs : (x : ControlState) → Has listed x → Occurs m x
  listed_occurs x (inl e) = is_begin e
  listed_occurs x (inr (inl e)) = is_end e
  listed_occurs x (inr (inr h)) = elim (of_two firsts (more_read ++ (shifted ++ (lasts ++ more_written))) x h) [
    | inl one ↦ from_firsts x one
    | inr rest ↦ elim (of_two more_read (shifted ++ (lasts ++ more_written)) x rest) [
      | inl two ↦ from_reads x two
      | inr rest ↦ elim (of_two shifted (lasts ++ more_written) x rest) [
        | inl three ↦ from_shifts x three
        | inr rest ↦ elim (of_two lasts more_written x rest) [
          | inl four ↦ from_lasts x four
          | inr five ↦ from_writes x five
        ]
      ]
    ]
  ]

  -- ---- no state is listed twice

  class_firsts : (x : ControlState) → Has firsts x → class x ≡ 2
  class_firsts x h = let found = from_mapped first_state readers x h in ap class (sym found.2)

  class_reads : (x : ControlState) → Has more_read x → class x ≡ 3
  class_reads x h = let found = from_along read_states 1 m.rules x h in by found.1.from (reads_of found.1) found.3
    where
      by : (a : ℕ) (l : List (ℕ × ℕ)) → Has (more_reads a l) x → class x ≡ 3
      by a [] h = absurd h
      by a (q ∷ l) h = let one = from_mapped (λ (b : List ℕ). Reads a (q.1 ∷ b)) (inits (symbols_read l)) x h in ap
          class (sym one.2)

  class_shifts : (x : ControlState) → Has shifted x → class x ≡ 4
  class_shifts x h =
      let found = from_along shift_states 1 m.rules x h in
      let one = from_mapped (λ (s : ℕ × Side). Shifts (1 + found.0) s.0) (shifts_of found.1) x found.3 in
      ap class (sym one.2)

  class_lasts : (x : ControlState) → Has lasts x → class x ≡ 5
  class_lasts x h = let found = from_mapped last_state written x h in ap class (sym found.2)

  class_writes : (x : ControlState) → Has more_written x → class x ≡ 6
  class_writes x h =
      let found = from_along write_states 1 m.rules x h in
      let one = from_mapped (write_state found.1.to) (tails (writes_of found.1)) x found.3 in
      let split = from_tail (writes_of found.1) one.0.0 one.0.1 one.1 in
      ap class (sym one.2) ∙ ap (λ l. class (Writes found.1.to one.0.0.0 (symbols_read l))) split.4

  firsts_apart : IsApart firsts
  firsts_apart = apart_mapped first_state (λ a b e. cc) readers
      (apart_filtered (λ a. is_reader p (named a)) (range_with_len 0 m.states) (range_apart 0 m.states))

  lasts_apart : IsApart lasts
  lasts_apart = apart_mapped last_state (λ a b e. cc) written
      (apart_filtered (λ a. is_written p (named a)) (range_with_len 0 m.states) (range_apart 0 m.states))

  -- a state that awaits a second or later read tells its quadruple
  read_symbols : (i : ℕ) (r : Rule ℕ) → slice_get m.rules i ≡ Some r → (x : ControlState)
      → Has (read_states (1 + i) r) x
      → (y : ℕ) × (b : List ℕ) × (x ≡ Reads r.from (y ∷ b)) × (symbols_read (reads_of r) ≡ y ∷ later p (named r.from) y)
  read_symbols i r here x h = by (reads_of r) refl h
    where
      by : (l : List (ℕ × ℕ)) → reads_of r ≡ l → Has (more_reads r.from l) x
          → (y : ℕ) × (b : List ℕ) × (x ≡ Reads r.from (y ∷ b)) × (symbols_read (reads_of r)
          ≡ y ∷ later p (named r.from) y)
      by [] e h = absurd h
      by (q ∷ l) e h =
          let one = from_mapped (λ (b : List ℕ). Reads r.from (q.1 ∷ b)) (inits (symbols_read l)) x h in
          let told = subst (ReadsTell p (named r.from)) e (before_tells (suc i) r here) in
          (q.1, one.0, sym one.2, ap symbols_read e ∙ ap (λ k. q.1 ∷ k) told.1)

  reads_apart : IsApart more_read
  reads_apart = apart_along read_states 1 m.rules (λ i r here. one r.from (reads_of r)) across
    where
      one : (a : ℕ) (l : List (ℕ × ℕ)) → IsApart (more_reads a l)
      one a [] = tt
      one a (q ∷ l) = apart_mapped (λ (b : List ℕ). Reads a (q.1 ∷ b)) (λ b c e. cc) (inits (symbols_read l))
          (inits_apart (symbols_read l))

      across : (i j : ℕ) (r s : Rule ℕ) (x : ControlState) → slice_get m.rules i ≡ Some r → slice_get m.rules j ≡ Some s
          → Has (read_states (1 + i) r) x → Has (read_states (1 + j) s) x → i ≡ j
      across i j r s x here there h g =
          let a = read_symbols i r here x h in
          let b = read_symbols j s there x g in
          let both : Reads r.from (a.0 ∷ a.1) ≡ Reads s.from (b.0 ∷ b.1) = sym a.2 ∙ b.2 in
          let from : r.from ≡ s.from = cc in
          let first : a.0 ≡ b.0 = cc in
          let symbols : symbols_read (reads_of r) ≡ symbols_read (reads_of s) =
          a.3 ∙ (λ i. first i ∷ later p (named (from i)) (first i)) ∙ sym b.3 in
          let same = same_domain m u (suc i) (suc j) r s here there from symbols in
          omega arith

  shifted_apart : IsApart shifted
  shifted_apart = apart_along shift_states 1 m.rules (λ i r here. shifts_apart (1 + i) 1 (deeds_of r)) across
    where
      across : (i j : ℕ) (r s : Rule ℕ) (x : ControlState) → slice_get m.rules i ≡ Some r → slice_get m.rules j ≡ Some s
          → Has (shift_states (1 + i) r) x → Has (shift_states (1 + j) s) x → i ≡ j
      across i j r s x here there h g =
          let a = from_mapped (λ (v : ℕ × Side). Shifts (1 + i) v.0) (shifts_of r) x h in
          let b = from_mapped (λ (v : ℕ × Side). Shifts (1 + j) v.0) (shifts_of s) x g in
          let both : Shifts (1 + i) a.0.0 ≡ Shifts (1 + j) b.0.0 = a.2 ∙ sym b.2 in
          let same : 1 + i ≡ 1 + j = cc in
          omega arith

  -- and so does one that awaits a write before the last
  write_symbols : (i : ℕ) (r : Rule ℕ) → slice_get m.rules i ≡ Some r → (x : ControlState)
      → Has (write_states (1 + i) r) x
      → (t y : ℕ) × (b : List ℕ) × (x ≡ Writes r.to t (y ∷ b)) × (symbols_read (writes_of r)
      ≡ earlier p (named r.to) (last_of y b) ++ last_of y b ∷ [])
  write_symbols i r here x h =
      let one = from_mapped (write_state r.to) (tails (writes_of r)) x h in
      let split = from_tail (writes_of r) one.0.0 one.0.1 one.1 in
      by one.0.0 one.0.1 (sym one.2) split.0 split.1 split.2 split.3 split.4
    where
      told : (l : List (ℕ × ℕ)) → rising 1 (deeds_of r) ≡ l → (front : List ℕ) (v y : ℕ) (k : List ℕ)
          → symbols_read (writes_of r) ≡ front ++ (v ∷ (y ∷ k)) → symbols_read (writes_of r)
          ≡ earlier p (named r.to) (last_of y k) ++ last_of y k ∷ []
      told [] e front v y k symbols = none front (let nothing : symbols_read (writes_of r)
          ≡ [] = ap (λ l. symbols_read (reverse l)) e in sym nothing ∙ symbols)
        where
          none : (front : List ℕ) → [] ≡ front ++ (v ∷ (y ∷ k)) → symbols_read (writes_of r)
              ≡ earlier p (named r.to) (last_of y k) ++ last_of y k ∷ []
          none [] e = absurd (cc)
          none (a ∷ b) e = absurd (cc)
      told (q ∷ l) e front v y k symbols =
          let tell = subst (WritesTell p (named r.to)) e (after_tells (suc i) r here) in
          let ends : symbols_read (writes_of r) ≡ earlier p (named r.to) q.1 ++ q.1 ∷ [] =
          ap (λ l. symbols_read (reverse l)) e ∙ tell.2 in
          let same : q.1 ≡ last_of y k = sym (ap (last_of 0) ends ∙ last_back 0 (earlier p (named r.to) q.1) q.1 [])
          ∙ ap (last_of 0) symbols ∙ last_back 0 front v (y ∷ k) in
          ends ∙ ap (λ w. earlier p (named r.to) w ++ w ∷ []) same

      by : (q : ℕ × ℕ) (rest : List (ℕ × ℕ)) → x ≡ write_state r.to (q, rest)
          → (before : List (ℕ × ℕ)) (c : ℕ × ℕ) (more : List (ℕ × ℕ)) → writes_of r ≡ before ++ (q ∷ rest)
          → rest ≡ c ∷ more
          → (t y : ℕ) × (b : List ℕ) × (x ≡ Writes r.to t (y ∷ b))
          × (symbols_read (writes_of r) ≡ earlier p (named r.to) (last_of y b) ++ last_of y b ∷ [])
      by q rest e before c more split follows =
          let symbols : symbols_read (writes_of r) ≡ symbols_read before ++ (q.1 ∷ (c.1 ∷ symbols_read more)) =
          ap symbols_read split ∙ map-append (λ (v : ℕ × ℕ). v.1) before (q ∷ rest)
          ∙ ap (λ l. symbols_read before ++ (q.1 ∷ symbols_read l)) follows in (
            q.0,
            c.1,
            symbols_read more,
            e ∙ ap (λ l. Writes r.to q.0 (symbols_read l)) follows,
            told (rising 1 (deeds_of r)) refl (symbols_read before) q.1 c.1 (symbols_read more) symbols,
          )

  writes_apart : IsApart more_written
  writes_apart = apart_along write_states 1 m.rules (λ i r here. tails_apart (write_state r.to)
      (λ v w e. same_symbols v.1 w.1 (cc)) (writes_of r)) across
    where
      across : (i j : ℕ) (r s : Rule ℕ) (x : ControlState) → slice_get m.rules i ≡ Some r → slice_get m.rules j ≡ Some s
          → Has (write_states (1 + i) r) x → Has (write_states (1 + j) s) x → i ≡ j
      across i j r s x here there h g =
          let a = write_symbols i r here x h in
          let b = write_symbols j s there x g in
          let both : Writes r.to a.0 (a.1 ∷ a.2) ≡ Writes s.to b.0 (b.1 ∷ b.2) = sym a.3 ∙ b.3 in
          let to : r.to ≡ s.to = cc in
          let first : a.1 ≡ b.1 = cc in
          let rest : a.2 ≡ b.2 = cc in
          let last : last_of a.1 a.2 ≡ last_of b.1 b.2 = λ i. last_of (first i) (rest i) in
          let symbols : symbols_read (writes_of r) ≡ symbols_read (writes_of s) =
          a.4 ∙ (λ i. earlier p (named (to i)) (last i) ++ (last i) ∷ []) ∙ sym b.4 in
          let same = same_range m u (suc i) (suc j) r s here there to symbols in
          omega arith

  pub listed_apart : IsApart listed
  listed_apart =
      let four = joined lasts more_written lasts_apart writes_apart
      (λ x h g. differ x 5 6 (class_lasts x h) (class_writes x g) (λ e. omega arith)) in
      let three = joined shifted (lasts ++ more_written) shifted_apart four
      (λ x h g. elim (of_two lasts more_written x g) [
        | inl a ↦ differ x 4 5 (class_shifts x h) (class_lasts x a) (λ e. omega arith)
        | inr b ↦ differ x 4 6 (class_shifts x h) (class_writes x b) (λ e. omega arith)
      ]) in
      let two = joined more_read (shifted ++ (lasts ++ more_written)) reads_apart three
      (λ x h g. let above = over_shifts x g in let is = class_reads x h in omega arith) in
      let one = joined firsts (more_read ++ (shifted ++ (lasts ++ more_written))) firsts_apart two
      (λ x h g. let above = over_reads x g in let is = class_firsts x h in omega arith) in
      (not_begin, (not_end, one))
    where
      differ : (x : ControlState) (a b : ℕ) → class x ≡ a → class x ≡ b → (a ≡ b → ⊥) → ⊥
      differ x a b e f ne = ne (sym e ∙ f)

      over_shifts : (x : ControlState) → Has (shifted ++ (lasts ++ more_written)) x → 4 ≤ class x
      over_shifts x g = elim (of_two shifted (lasts ++ more_written) x g) [
        | inl a ↦ (let is = class_shifts x a in omega arith)
        | inr b ↦ elim (of_two lasts more_written x b) [
          | inl c ↦ (let is = class_lasts x c in omega arith)
          | inr d ↦ (let is = class_writes x d in omega arith)
        ]
      ]

      over_reads : (x : ControlState) → Has (more_read ++ (shifted ++ (lasts ++ more_written))) x → 3 ≤ class x
      over_reads x g = elim (of_two more_read (shifted ++ (lasts ++ more_written)) x g) [
        | inl a ↦ (let is = class_reads x a in omega arith)
        | inr b ↦ (let is = over_shifts x b in omega arith)
      ]

      over_firsts : (x : ControlState) → Has (firsts ++ (more_read ++ (shifted ++ (lasts ++ more_written)))) x
          → 2 ≤ class x
      over_firsts x g = elim (of_two firsts (more_read ++ (shifted ++ (lasts ++ more_written))) x g) [
        | inl a ↦ (let is = class_firsts x a in omega arith)
        | inr b ↦ (let is = over_reads x b in omega arith)
      ]

      not_begin : Has (End ∷ (firsts ++ (more_read ++ (shifted ++ (lasts ++ more_written))))) Begin → ⊥
      not_begin (inl e) = absurd (cc)
      not_begin (inr h) = let above : 2 ≤ 0 = over_firsts Begin h in omega arith

      not_end : Has (firsts ++ (more_read ++ (shifted ++ (lasts ++ more_written)))) End → ⊥
      not_end h = let above : 2 ≤ 1 = over_firsts End h in omega arith
