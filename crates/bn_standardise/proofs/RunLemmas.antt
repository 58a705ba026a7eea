-- What a run of the machine that is made does: it follows the loose run, one step behind, and then steps back over the
-- letters.
use Rattle.std.specs.Prelude.{◌≡◌, ◌≢◌, ℕ, zero, suc, ◌+◌, ◌-◌, ◌<◌, ◌≤◌, Bool, true, false, cond, ℤ, pos, negsuc, ◌-ℤ◌}
use Rattle.std.specs.Prelude.{List, [], ◌∷◌, ◌++◌, length, map, Some}
use Rattle.std.specs.Ordering.{int_eq}
use Rattle.std.proofs.Common.{refl, sym, subst, ◌∙◌, ap, arith, inl, inr}
use Rattle.std.proofs.lemmas.Int.{ints}
use Rattle.std.proofs.lemmas.Bool.{cases_lt}
use Rattle.std.proofs.lemmas.List.{get_or_past}
use Rattle.std.proofs.lemmas.Option.{get_or_from_slice_get}
use Rattle.bn_lists.specs.Runs.{Reaches}
use Rattle.bn_lists.proofs.RunsLemmas.{runs_join}
use Rattle.bn_machine.specs.Tape.{Tape, cell, scanned, write, shift, word_tape, letter_at}
use Rattle.bn_machine.proofs.TapeLemmas.{cell-word, cell-write, write-scanned}
use Rattle.bn_machine.specs.Window.{anywhere}
use Rattle.bn_machine.specs.Machine.{Program, Moment, Matches, MachineRunsTo, IsFinal, IsMachineStuck, IsMachine}
use Rattle.bn_machine.specs.Machine.{IsInRange, start, start_of, final_of}
use Rattle.bn_lists.specs.Lists.{nth, Has}
use Rattle.bn_lists.proofs.ListLemmas.{nth_within}
use Rattle.bn_machine.specs.Run.{After}
use Rattle.bn_machine.proofs.MachineStepLemmas.{same_moment, moment_after, applies_once, goes_once, final_stuck_or_goes}
use Rattle.bn_machine.proofs.MachineStepLemmas.{final_not_going, stuck_not_going}
use Rattle.bn_machine.specs.declared.quint.Quint.{Quint}
use Rattle.bn_machine.specs.declared.quint.Shift.TheVariants.{Left, Stay, Right}
use Rattle.bn_standardise.specs.Rules.{entering, own_rule, back_over, back_over_all, leaving, middle_of, rules_of}
use Rattle.bn_standardise.specs.declared.name.Name.{Name}
use Rattle.bn_standardise.specs.declared.name.Name.TheVariants.{Own, Last}
use Rattle.bn_standardise.specs.declared.rule.Rule.{Rule}
use Rattle.bn_standardise.specs.Standardised.{numbered, standardised_by, Occurs, TellsApart, IsLoose}
use Rattle.bn_standardise.specs.Loose.{loose_start, Loose, IsWord, HasTail, behind, LooseHalts}
use Rattle.bn_lists.proofs.MemberLemmas.{of_two}
use Rattle.bn_standardise.proofs.ListLemmas.{Pairwise, nth_in, in_nth, in_map_cases, Apart, match_found}
use Rattle.bn_standardise.proofs.RuleLemmas.{start_occurs, final_occurs, some_symbol, back_over_cases, renamed_in}
use Rattle.bn_standardise.proofs.RuleLemmas.{back_over_here, leaving_in, quints_apart, quint_in}
use Rattle.bn_standardise.proofs.FormLemmas.{final_state}
use Rattle.bn_standardise.proofs.TailLemmas.{tail_exists}

-- ---- one step

-- a quintuple of a machine without clashes that matches is applied
pub goes_by_quint : (p : Program) (q : Quint) (c : Moment) → Pairwise Apart p.quints → Has p.quints q
    → Matches q c.state (scanned c.tape) → c.state ≢ final_of p.quints → MachineRunsTo anywhere p c (moment_after q c)
goes_by_quint p q c apart h m going =
    let found = match_found p.quints q c.state (scanned c.tape) apart h m in (
      found.0,
      record {
        going = going;
        quint = q;
        match = found.1;
        applies = record { from = m.from; reads = m.reads; writes = refl; to = refl };
        stays = tt;
      },
    )

-- states that are reached occur
goes_occurs : (p : Program) (c d : Moment) → MachineRunsTo anywhere p c d → Occurs p.quints d.state
goes_occurs p c d g = record {
  quint = g.1.quint;
  stands = nth_in p.quints g.0 g.1.quint g.1.match.stands;
  names = inr (sym g.1.applies.to);
}

-- so do the states at the end of a run
pub reached_occurs : (p : Program) (n : ℕ) (c d : Moment) → Occurs p.quints c.state
    → Reaches (MachineRunsTo anywhere p) n c d → Occurs p.quints d.state
reached_occurs p zero c d h run = subst (λ (m : Moment). Occurs p.quints m.state) run h
reached_occurs p (suc n) c d h run = reached_occurs p n run.0 d (goes_occurs p c run.0 run.1) run.2

-- ---- symbols of a tape are known

-- every cell holds one of the symbols
pub record IsKnown (symbols : ℕ) (t : Tape) : Type 0 where
  pub known : (q : ℤ) → cell t q < symbols

-- both ways of a choice are below the bound
cond_below : (b : Bool) (s r n : ℕ) → s < n → r < n → cond b s r < n
cond_below true s r n h k = h
cond_below false s r n h k = k

-- a quintuple of a machine is in range
pub in_range : (p : Program) (q : Quint) → IsMachine p → Has p.quints q → IsInRange p.states p.symbols q
in_range p q machine h = let there = in_nth p.quints q h in by_place there.0 there.1
  where
    by_place : (n : ℕ) → nth p.quints n ≡ Some q → IsInRange p.states p.symbols q
    by_place zero e = absurd (cc)
    by_place (suc n) e =
        let inside : suc n ≤ length p.quints = nth_within p.quints (suc n) q e in
        let there = machine.in_range n q (omega (arith, inside)) in
        subst (IsInRange p.states p.symbols) (get_or_from_slice_get p.quints n q q e) there

-- a step writes a known symbol
goes_known : (p : Program) (c d : Moment) → IsMachine p → IsKnown p.symbols c.tape → MachineRunsTo anywhere p c d
    → IsKnown p.symbols d.tape
goes_known p c d machine h g = record {
  known = λ q.
      let range = in_range p g.1.quint machine (nth_in p.quints g.0 g.1.quint g.1.match.stands) in
      let written : cell d.tape q ≡ cond (int_eq q c.tape.head) g.1.quint.write (cell c.tape q) =
      ap (λ (t : Tape). cell t q) g.1.applies.writes ∙ cell-write c.tape g.1.quint.write q in
      subst (λ s. s < p.symbols) (sym written) (cond_below (int_eq q c.tape.head) g.1.quint.write (cell c.tape q)
      p.symbols range.write (h.known q));
}

-- so does a run
pub reached_known : (p : Program) (n : ℕ) (c d : Moment) → IsMachine p → IsKnown p.symbols c.tape
    → Reaches (MachineRunsTo anywhere p) n c d → IsKnown p.symbols d.tape
reached_known p zero c d machine h run = subst (λ (m : Moment). IsKnown p.symbols m.tape) run h
reached_known p (suc n) c d machine h run = reached_known p n run.0 d machine (goes_known p c run.0 machine h run.1)
    run.2

-- a letter of a word is known, and so is the blank
letter_known : (symbols : ℕ) (word : List ℕ) (q : ℤ) → 0 < symbols → IsWord symbols word → letter_at word q < symbols
letter_known symbols word (pos zero) some w = some
letter_known symbols word (pos (suc k)) some w = elim (cases_lt k (length word)) [
  | inl h ↦ w.known k h
  | inr h ↦ subst (λ s. s < symbols) (sym (get_or_past word k 0 h)) some
]
letter_known symbols word (negsuc k) some w = some

-- the tape of a loose start is known
pub loose_known : (p : Program) (word : List ℕ) → IsMachine p → IsWord p.symbols word
    → IsKnown p.symbols (loose_start p word).tape
loose_known p word machine w = record {
  known = λ q. subst (λ s. s < p.symbols) (sym (cell-word word q))
      (letter_known p.symbols word q (some_symbol p machine) w);
}

-- ---- following the loose run

-- the moment of the new machine that stands for one of the loose run
abbrev pub stand_in : (Name → ℕ) → Moment → Moment
stand_in number c = record { state = number (Own c.state); tape = c.tape }

module _ (number : Name → ℕ) (p : Program) (loose : IsLoose p) (tells : TellsApart number p) where
  -- a step of one of the rules
  goes_by_rule : (r : Rule) (c : Moment) → Has (rules_of p) r → c.state ≡ number r.state → scanned c.tape ≡ r.read
      → number r.state ≢ number Last → MachineRunsTo anywhere (standardised_by number p) c
      (moment_after (numbered number r) c)
  goes_by_rule r c h state read going =
      goes_by_quint (standardised_by number p) (numbered number r) c (quints_apart number p loose tells)
      (quint_in number p r h) (record { from = state; reads = read })
      (λ e. going (sym state ∙ e ∙ final_state number p))

  -- the first step
  pub enters : (word : List ℕ) → MachineRunsTo anywhere (standardised_by number p)
      (start (standardised_by number p) word) (stand_in number (loose_start p word))
  enters word =
      let blank : scanned (word_tape word) ≡ 0 = cell-word word (pos 0) in
      let goes = goes_by_rule (entering (start_of p.quints)) (start (standardised_by number p) word) (inl refl) refl
      blank tells.ends in
      let same : write (word_tape word) 0 ≡ word_tape word = write-scanned (word_tape word) 0 blank in
      subst (MachineRunsTo anywhere (standardised_by number p) (start (standardised_by number p) word))
      (same_moment _ (stand_in number (loose_start p word)) refl (ap (λ t. shift t Right) same)) goes

  -- a step of the machine's own
  pub follows_step : (c d : Moment) → MachineRunsTo anywhere p c d
      → MachineRunsTo anywhere (standardised_by number p) (stand_in number c) (stand_in number d)
  follows_step c d g =
      let here = nth_in p.quints g.0 g.1.quint g.1.match.stands in
      let occurs : Occurs p.quints g.1.quint.state = record { quint = g.1.quint; stands = here; names = inl refl } in
      let goes = goes_by_rule (own_rule g.1.quint) (stand_in number c) (renamed_in p g.1.quint here)
      (ap (λ s. number (Own s)) g.1.applies.from) g.1.applies.reads (tells.last g.1.quint.state occurs) in
      subst (MachineRunsTo anywhere (standardised_by number p) (stand_in number c))
      (sym (ap (stand_in number) (applies_once g.1.quint c d g.1.applies))) goes

  -- a run of the machine's own
  pub follows : (n : ℕ) (c d : Moment) → Reaches (MachineRunsTo anywhere p) n c d
      → Reaches (MachineRunsTo anywhere (standardised_by number p)) n (stand_in number c) (stand_in number d)
  follows zero c d run = ap (stand_in number) run
  follows (suc n) c d run = (stand_in number run.0, follows_step c run.0 run.1, follows n run.0 d run.2)

  -- ---- stuck together

  -- where the machine is stuck, so is the moment that stands for it
  pub sticks : (c : Moment) → Occurs p.quints c.state → IsMachineStuck p c
      → IsMachineStuck (standardised_by number p) (stand_in number c)
  sticks c occurs stuck = record {
    going = λ e. tells.last c.state occurs (e ∙ final_state number p);
    none = record { none = λ n q stands m. none q (nth_in (standardised_by number p).quints n q stands) m };
  }
    where
      -- a rule that leaves the halting state doesn't match
      halting : (q : Quint) → q.state ≡ number (Own (final_of p.quints))
          → Matches q (number (Own c.state)) (scanned c.tape) → ⊥
      halting q state m = stuck.going (tells.states c.state (final_of p.quints) occurs
          (final_occurs p.quints loose.machine.some) (m.from ∙ state))

      own : (q : Quint) (r : Quint) → Has p.quints r → q ≡ numbered number (own_rule r)
          → Matches q (number (Own c.state)) (scanned c.tape) → ⊥
      own q r h e m =
          let there = in_nth p.quints r h in
          let also : Occurs p.quints r.state = record { quint = r; stands = h; names = inl refl } in
          stuck.none.none there.0 r there.1 (record {
            from = tells.states c.state r.state occurs also (m.from ∙ ap (λ (v : Quint). v.state) e);
            reads = m.reads ∙ ap (λ (v : Quint). v.read) e;
          })

      rule : (q : Quint) (r : Rule) → q ≡ numbered number r → Has (middle_of p ++ leaving (final_of p.quints) ∷ []) r
          → Matches q (number (Own c.state)) (scanned c.tape) → ⊥
      rule q r e h m = elim (of_two (middle_of p) (leaving (final_of p.quints) ∷ []) r h) [
        | inl mid ↦ elim (of_two (map own_rule p.quints) (back_over_all (final_of p.quints) 1 (p.symbols - 1)) r mid) [
          | inl mine ↦ let from = in_map_cases own_rule p.quints r mine in own q from.0 from.1
              (e ∙ ap (numbered number) from.2) m
          | inr back ↦ let x = back_over_cases (final_of p.quints) 1 (p.symbols - 1) r back in halting q
              (ap (λ (v : Quint). v.state) (e ∙ ap (numbered number) x.2)) m
        ]
        | inr (inl last) ↦ halting q (ap (λ (v : Quint). v.state) (e ∙ ap (numbered number) last)) m
        | inr (inr nothing) ↦ absurd nothing
      ]

      none : (q : Quint) → Has (standardised_by number p).quints q → Matches q (number (Own c.state)) (scanned c.tape)
          → ⊥
      none q (inl e) m = tells.first c.state occurs (m.from ∙ ap (λ (v : Quint). v.state) e)
      none q (inr h) m =
          let r = in_map_cases (numbered number) (middle_of p ++ leaving (final_of p.quints) ∷ []) q h in
          rule q r.0 r.2 r.1 m

  -- ---- back over the letters

  -- the halted machine with this tape
  abbrev pub halted : Tape → Moment
  halted t = record { state = number (Own (final_of p.quints)); tape = t }

  halting_goes_on : number (Own (final_of p.quints)) ≢ number Last
  halting_goes_on = tells.last (final_of p.quints) (final_occurs p.quints loose.machine.some)

  -- one letter
  steps_back : (t : Tape) → IsKnown p.symbols t → scanned t ≢ 0
      → MachineRunsTo anywhere (standardised_by number p) (halted t) (halted (behind 1 t))
  steps_back t known letter =
      let goes = goes_by_rule (back_over (final_of p.quints) (scanned t)) (halted t)
      (back_over_here p (scanned t) letter (known.known t.head)) refl refl halting_goes_on in
      let same : write t (scanned t) ≡ t = write-scanned t (scanned t) refl in
      subst (MachineRunsTo anywhere (standardised_by number p) (halted t))
      (same_moment _ (halted (behind 1 t)) refl (ap (λ u. shift u Left) same)) goes

  -- one cell back and then d more
  same_behind : (t : Tape) (d : ℕ) → behind d (behind 1 t) ≡ behind (suc d) t
  same_behind t d = let heads : (t.head -ℤ pos 1) -ℤ pos d ≡ t.head -ℤ pos (suc d) =
      omega (arith, ints) in λ i. record { cells = t.cells; head = heads i }

  -- a cell back, one letter fewer ends at the head
  tail_behind : (t : Tape) (d : ℕ) → HasTail t (suc d) → HasTail (behind 1 t) d
  tail_behind t d h = record {
    letters = λ k low e.
        let there : (t.head -ℤ pos 1) -ℤ pos k ≡ t.head -ℤ pos (suc k) = omega (arith, ints) in
        h.letters (suc k) (omega (arith, low)) (ap (cell t) (sym there) ∙ e);
    ended =
        let there : (t.head -ℤ pos 1) -ℤ pos d ≡ t.head -ℤ pos (suc d) = omega (arith, ints) in
        ap (cell t) there ∙ h.ended;
  }

  -- all letters that end at the head
  pub steps_back_all : (d : ℕ) (t : Tape) → IsKnown p.symbols t → HasTail t d
      → Reaches (MachineRunsTo anywhere (standardised_by number p)) d (halted t) (halted (behind d t))
  steps_back_all zero t known h = let heads : t.head ≡ t.head -ℤ pos 0 =
      omega (arith, ints) in λ i. record {
        state = number (Own (final_of p.quints));
        tape = record { cells = t.cells; head = heads i };
      }
  steps_back_all (suc d) t known h =
      let here : t.head -ℤ pos 0 ≡ t.head = omega (arith, ints) in
      let letter : scanned t ≢ 0 = λ e. h.letters 0 (omega arith) (ap (cell t) here ∙ e) in
      let rest = steps_back_all d (behind 1 t) (record { known = known.known }) (tail_behind t d h) in (
        halted (behind 1 t),
        steps_back t known letter,
        subst (λ u. Reaches
            (MachineRunsTo anywhere (standardised_by number p)) d (halted (behind 1 t)) (halted u)) (same_behind t d)
            rest,
      )

  -- the end
  abbrev pub ended : Tape → Moment
  ended t = record { state = number Last; tape = t }

  -- the last step
  leaves : (t : Tape) → scanned t ≡ 0 → MachineRunsTo anywhere (standardised_by number p) (halted t) (ended t)
  leaves t blank =
      let goes = goes_by_rule (leaving (final_of p.quints)) (halted t) (leaving_in p) refl blank halting_goes_on in
      subst (MachineRunsTo anywhere (standardised_by number p) (halted t))
      (same_moment _ (ended t) refl (ap (λ u. shift u Stay) (write-scanned t 0 blank))) goes

  -- ---- whole runs

  -- from where the loose run halts the new machine runs on to its end
  runs_out : (c : Moment) (d : ℕ) → IsFinal p c → IsKnown p.symbols c.tape → HasTail c.tape d
      → Reaches (MachineRunsTo anywhere (standardised_by number p)) (d + 1) (stand_in number c)
      (ended (behind d c.tape))
  runs_out c d final known tail =
      let step = MachineRunsTo anywhere (standardised_by number p) in
      let at : stand_in number c ≡ halted c.tape = same_moment (stand_in number c) (halted c.tape)
      (ap (λ s. number (Own s)) final) refl in
      let out : Reaches step 1 (halted (behind d c.tape)) (ended (behind d c.tape)) =
      (ended (behind d c.tape), leaves (behind d c.tape) tail.ended, refl) in
      subst (λ m. Reaches step (d + 1) m (ended (behind d c.tape))) (sym at)
      (runs_join step (d + 1) d 1 _ _ _ refl (steps_back_all d c.tape known tail) out)

  -- up to there it follows the loose run, one step behind
  runs_in : (word : List ℕ) (v : ℕ) (c : Moment) → Loose p word v c
      → After (standardised_by number p) word (v + 1) (stand_in number c)
  runs_in word v c run =
      let step = MachineRunsTo anywhere (standardised_by number p) in
      let first : Reaches step 1 (start (standardised_by number p) word) (stand_in number (loose_start p word)) =
      (stand_in number (loose_start p word), enters word, refl) in
      runs_join step (v + 1) 1 v _ _ _ (omega arith) first (follows v (loose_start p word) c run)

  -- where the loose run halts, the new machine halts behind the letters
  pub halts_behind : (word : List ℕ) → IsWord p.symbols word → (v d : ℕ) (c : Moment) → Loose p word v c → IsFinal p c
      → HasTail c.tape d → After (standardised_by number p) word (v + 2 + d) (ended (behind d c.tape))
  halts_behind word w v d c run final tail =
      let known = reached_known p v (loose_start p word) c loose.machine (loose_known p word loose.machine w) run in
      runs_join (MachineRunsTo anywhere (standardised_by number p)) (v + 2 + d) (v + 1) (d + 1) _ _ _ (omega arith)
      (runs_in word v c run) (runs_out c d final known tail)

  -- where the loose run is stuck, the new machine is stuck one step later
  pub sticks_alike : (word : List ℕ) → (v : ℕ) (c : Moment) → Loose p word v c → IsMachineStuck p c
      → After (standardised_by number p) word (v + 1) (stand_in number c)
      × IsMachineStuck (standardised_by number p) (stand_in number c)
  sticks_alike word v c run stuck = (
    runs_in word v c run,
    sticks c (reached_occurs p v (loose_start p word) c (start_occurs p.quints loose.machine.some) run) stuck,
  )

  -- where the new machine halts, the loose run does
  pub halts_only_then : (n : ℕ) (c e : Moment) → Occurs p.quints c.state
      → Reaches (MachineRunsTo anywhere (standardised_by number p)) n (stand_in number c) e
      → IsFinal (standardised_by number p) e → (v : ℕ) × (d : Moment) × Reaches (MachineRunsTo anywhere p) v c d
      × IsFinal p d
  halts_only_then zero c e occurs run final = absurd (tells.last c.state occurs
      (ap (λ (m : Moment). m.state) run ∙ final ∙ final_state number p))
  halts_only_then (suc n) c e occurs run final = elim (final_stuck_or_goes p c) [
    | inl here ↦ (0, c, refl, here)
    | inr (inl stuck) ↦ absurd (stuck_not_going anywhere (standardised_by number p) (stand_in number c) run.0
        (sticks c occurs stuck) run.1)
    | inr (inr on) ↦
        let same : run.0 ≡ stand_in number on.0 = goes_once anywhere anywhere (standardised_by number p)
        (stand_in number c) run.0 (stand_in number on.0) run.1 (follows_step c on.0 on.1) in
        let rest = halts_only_then n on.0 e (goes_occurs p c on.0 on.1)
        (subst (λ m. Reaches (MachineRunsTo anywhere (standardised_by number p)) n m e) same run.2) final in
        (suc rest.0, rest.1, (on.0, on.1, rest.2), rest.3)
  ]

  -- so from the start
  pub after_halts : (word : List ℕ) (n : ℕ) (e : Moment) → After (standardised_by number p) word n e
      → IsFinal (standardised_by number p) e → LooseHalts p word
  after_halts word zero e run final = absurd (tells.ends (ap (λ (m : Moment). m.state) run ∙ final
      ∙ final_state number p))
  after_halts word (suc n) e run final =
      let same = goes_once anywhere anywhere (standardised_by number p) (start (standardised_by number p) word) run.0
      (stand_in number (loose_start p word)) run.1 (enters word) in
      halts_only_then n (loose_start p word) e (start_occurs p.quints loose.machine.some)
      (subst (λ m. Reaches (MachineRunsTo anywhere (standardised_by number p)) n m e) same run.2) final

  -- ---- where the new machine is stuck, the loose run is

  -- no run from one moment is stuck and another one final
  one_end : (n k : ℕ) (x y z : Moment) → Reaches (MachineRunsTo anywhere (standardised_by number p)) n x y
      → IsMachineStuck (standardised_by number p) y → Reaches (MachineRunsTo anywhere (standardised_by number p)) k x z
      → IsFinal (standardised_by number p) z → ⊥
  one_end zero zero x y z run stuck other final = stuck.going (ap (λ (m : Moment). m.state) (sym run ∙ other) ∙ final)
  one_end zero (suc k) x y z run stuck other final = stuck_not_going anywhere (standardised_by number p) x other.0
      (subst (IsMachineStuck (standardised_by number p)) (sym run) stuck) other.1
  one_end (suc n) zero x y z run stuck other final = final_not_going anywhere (standardised_by number p) x run.0
      (subst (IsFinal (standardised_by number p)) (sym other) final) run.1
  one_end (suc n) (suc k) x y z run stuck other final =
      let same = goes_once anywhere anywhere (standardised_by number p) x other.0 run.0 other.1 run.1 in
      one_end n k run.0 y z run.2 stuck (subst (λ m. Reaches (MachineRunsTo anywhere (standardised_by number p)) k m z)
      same other.2) final

  -- where the loose run has halted the new machine isn't stuck
  not_stuck_behind : (n : ℕ) (c e : Moment) → IsFinal p c → IsKnown p.symbols c.tape
      → Reaches (MachineRunsTo anywhere (standardised_by number p)) n (stand_in number c) e
      → IsMachineStuck (standardised_by number p) e → ⊥
  not_stuck_behind n c e final known run stuck =
      let tail = tail_exists c.tape in
      one_end n (tail.0 + 1) (stand_in number c) e (ended (behind tail.0 c.tape)) run stuck
      (runs_out c tail.0 final known tail.1) (sym (final_state number p))

  -- from a moment of the loose run
  sticks_only_then : (n : ℕ) (c e : Moment) → Occurs p.quints c.state → IsKnown p.symbols c.tape
      → Reaches (MachineRunsTo anywhere (standardised_by number p)) n (stand_in number c) e
      → IsMachineStuck (standardised_by number p) e → (d : Moment) × Reaches (MachineRunsTo anywhere p) n c d
      × IsMachineStuck p d
  sticks_only_then zero c e occurs known run stuck = elim (final_stuck_or_goes p c) [
    | inl final ↦ absurd (not_stuck_behind zero c e final known run stuck)
    | inr (inl here) ↦ (c, refl, here)
    | inr (inr on) ↦ absurd (stuck_not_going anywhere (standardised_by number p) (stand_in number c)
        (stand_in number on.0) (subst (IsMachineStuck (standardised_by number p)) (sym run) stuck)
        (follows_step c on.0 on.1))
  ]
  sticks_only_then (suc n) c e occurs known run stuck = elim (final_stuck_or_goes p c) [
    | inl final ↦ absurd (not_stuck_behind (suc n) c e final known run stuck)
    | inr (inl here) ↦ absurd (stuck_not_going anywhere (standardised_by number p) (stand_in number c) run.0
        (sticks c occurs here) run.1)
    | inr (inr on) ↦
        let same : run.0 ≡ stand_in number on.0 = goes_once anywhere anywhere (standardised_by number p)
        (stand_in number c) run.0 (stand_in number on.0) run.1 (follows_step c on.0 on.1) in
        let rest = sticks_only_then n on.0 e (goes_occurs p c on.0 on.1) (goes_known p c on.0 loose.machine known on.1)
        (subst (λ m. Reaches (MachineRunsTo anywhere (standardised_by number p)) n m e) same run.2) stuck in
        (rest.0, (on.0, on.1, rest.1), rest.2)
  ]

  -- and from the start
  pub after_sticks : (word : List ℕ) → IsWord p.symbols word → (n : ℕ) (e : Moment)
      → After (standardised_by number p) word n e → IsMachineStuck (standardised_by number p) e
      → (v : ℕ) × (c : Moment) × (n ≡ v + 1) × Loose p word v c × IsMachineStuck p c
  after_sticks word w zero e run stuck = absurd (stuck_not_going anywhere (standardised_by number p)
      (start (standardised_by number p) word) (stand_in number (loose_start p word))
      (subst (IsMachineStuck (standardised_by number p)) (sym run) stuck) (enters word))
  after_sticks word w (suc n) e run stuck =
      let same = goes_once anywhere anywhere (standardised_by number p) (start (standardised_by number p) word) run.0
      (stand_in number (loose_start p word)) run.1 (enters word) in
      let found = sticks_only_then n (loose_start p word) e (start_occurs p.quints loose.machine.some)
      (loose_known p word loose.machine w) (subst (λ m. Reaches (MachineRunsTo anywhere (standardised_by number p))
      n m e) same run.2) stuck in
      (n, found.0, omega arith, found.1, found.2)
