-- What a control keeps of first commands and of first reads.
use Rattle.std.proofs.Common.{◌≡◌, ◌≢◌, ◌⊎◌, inl, inr, get_or, slice_get, ℕ, zero, suc, ◌+◌, ◌<◌, ◌≤◌, List, [], ◌∷◌}
use Rattle.std.proofs.Common.{◌++◌, length, map, take, Option, Some, None, refl, sym, ap, subst, ◌∙◌, arith}
use Rattle.std.proofs.Common.{length-append}
use Rattle.std.proofs.lemmas.List.{take_more}
use Rattle.std.proofs.lemmas.Option.{some_pair_parts, slice_get-get_or, slice_get_within}
use Rattle.bn_quad.specs.Quadruples.{Quadruples, final_state_of}
use Rattle.bn_network.specs.declared.cell_line.CellLine.{CellLine}
use Rattle.bn_network.specs.declared.cell_line.CellLine.TheVariants.{Read}
use Rattle.bn_network.specs.Controls as control
use Rattle.bn_network.specs.Controls.{ControlState, ControlMove, IsEntry, finishes, leaves, waits, IsFirstOf, reads_of}
use Rattle.bn_network.specs.Controls.{shifts_of, Occurs, is_begin, is_end, is_open, is_read, is_shift, is_write}
use Rattle.bn_network.specs.Controls.{symbols_read, out_number, IsFirstKept, final_kept, sent_kept}
use Rattle.bn_network.proofs.EntryLemmas.{one_entry}
use Rattle.bn_network.proofs.GoingLemmas.{end_entry}
use Rattle.bn_network.proofs.RangeLemmas.{rule_in_range}
use Rattle.bn_control.specs.declared.draft.Draft.{Draft}
use Rattle.bn_control.specs.declared.line.Line.TheVariants.{Outside, Tape}
use Rattle.bn_control.specs.declared.line.Sending.{Sending}
use Rattle.bn_control.specs.declared.name.StateName.{StateName}
use Rattle.bn_control.specs.declared.name.StateName.TheVariants.{Begin, End, Reads, Shifts, Writes}
use Rattle.bn_control.specs.declared.name.Symbols.{Symbols}
use Rattle.bn_control.specs.declared.name.Symbols.TheVariants.{Empty, Leading}
use Rattle.bn_control.specs.Names.{listed, state_of, IsProper}
use Rattle.bn_control.specs.Commands.{line_of, sending_of}
use Rattle.bn_control.specs.Controlled.{IsAwaiting}
use Rattle.bn_control.specs.Entries.{IsFirstSent}
use Rattle.bn_control.specs.Ordered.{HasNumber}
use Rattle.bn_control.specs.Numbered.{IsWithin}
use Rattle.bn_control.specs.Made.{IsDraft, AreFirsts, TellsAwaited, AreAwaited}
use Rattle.bn_control.proofs.SearchLemmas.{named_at}
use Rattle.bn_control.proofs.WithinLemmas.{out_within}

-- ---- first commands

-- the end is where the final state's first command leads, and no other's
end_final : (m : Quadruples) (a : ℕ) (k : ControlMove) → IsEntry m a k → k.0 ≡ control.End → a ≡ final_state_of m.rules
end_final m a k (finishes here e) is = here
end_final m a k (leaves n r here from first) is = absurd (go (reads_of r) (shifts_of r) first)
  where
    go : (rs : List (ℕ × ℕ)) (ss : List (ℕ × _)) → IsFirstOf n r rs ss k → ⊥
    go [] [] h = h
    go [] (p ∷ ss) h = let e : control.Shifts n p.0 ≡ control.End = ap (λ (x : ControlMove). x.0) (sym h) ∙ is in cc
    go (p ∷ rs) ss h = let e : control.Reads r.from [] ≡ control.End = ap (λ (x : ControlMove). x.0) (sym h) ∙ is in cc
end_final m a k (waits other low none e) is = absurd (let f : control.Reads a []
    ≡ control.End = ap (λ (x : ControlMove). x.0) (sym e) ∙ is in cc)

-- the end is kept as such
is_end_name : (x : StateName) → state_of x ≡ control.End → x ≡ End
is_end_name End e = refl
is_end_name Begin e = absurd (cc)
is_end_name (Reads a n s) e = absurd (cc)
is_end_name (Shifts n t) e = absurd (cc)
is_end_name (Writes a t u) e = absurd (cc)

no_symbols : (s : Symbols) → 0 ≡ length (listed s) → listed s ≡ []
no_symbols Empty e = refl
no_symbols (Leading x None) e = absurd (omega arith)
no_symbols (Leading x (Some y)) e = absurd (omega arith)

module _ (m : Quadruples) (d : Draft) (draft : IsDraft m d) where
  pub final_first : (a : ℕ) (s : Sending) → IsFirstSent m a s → s.state ≡ End
      → IsFirstKept m (map state_of d.states.items) a None
  final_first a s sent is = final_kept (end_final m a (sending_of s) sent.entry (ap state_of is))

  pub other_first : (a : ℕ) (s : Sending) (n o : ℕ) → IsFirstSent m a s → s.state ≢ End
      → slice_get (map state_of d.states.items) n ≡ Some (state_of s.state) → o ≡ out_number m (line_of s.line)
      → IsFirstKept m (map state_of d.states.items) a (Some (n, o))
  other_first a s n o sent other number line =
      let not_final : a ≢ final_state_of m.rules = λ e. other (is_end_name s.state
      (ap (λ (x : ControlMove). x.0) (one_entry m draft.uniform a (sending_of s) (control.End, control.Outside)
      sent.entry (finishes e refl)))) in
      subst (λ v. IsFirstKept m (map state_of d.states.items) a (Some (n, v))) (sym line)
      (sent_kept not_final (sending_of s) n sent.entry number)

  pub entry_number : (a : ℕ) (s : Sending) → IsFirstSent m a s → HasNumber d.states.items s.state
  entry_number a s sent = record {
    machine = m;
    ordered = draft.ordered;
    occurs = (end_entry m draft.valid a (sending_of s) sent.entry).occurs;
    proper = sent.proper;
  }

  pub entry_line : (a : ℕ) (s : Sending) → IsFirstSent m a s → IsWithin d.symbols s.line
  entry_line a s sent = subst (λ zs. IsWithin zs s.line) draft.symbols
      (out_within m draft.valid.tapes s.line (end_entry m draft.valid a (sending_of s) sent.entry).line)

  -- ---- first reads

  -- a state that awaits the first read of a state of the machine
  record Awaits (a : ℕ) : Type 0 where
    low : a < m.states
    tape : ℕ
    entry : IsEntry m a (control.Reads a [], control.Tape tape Read)

  awaits_first : (a : ℕ) (q : ControlState) → Occurs m q → q ≡ control.Reads a [] → Awaits a
  awaits_first a q (is_begin e) is = absurd (let f = sym e ∙ is in cc)
  awaits_first a q (is_end e) is = absurd (let f = sym e ∙ is in cc)
  awaits_first a q (is_open b low other none e) is =
      let f : control.Reads b [] ≡ control.Reads a [] = sym e ∙ is in
      let same : b ≡ a = cc in
      subst Awaits same (record { low = low; tape = 1; entry = waits other low none refl })
  awaits_first a q (is_read n r here [] rest p split e) is =
      let f : control.Reads r.from [] ≡ control.Reads a [] = sym e ∙ is in
      let same : r.from ≡ a = cc in
      subst Awaits same (record {
        low = (rule_in_range m draft.valid n r here).from;
        tape = p.0;
        entry = leaves n r here
            refl (subst (λ rs. IsFirstOf n r rs (shifts_of r) (control.Reads r.from [], control.Tape p.0 Read))
            (sym split) refl);
      })
  awaits_first a q (is_read n r here (b ∷ before) rest p split e) is =
      absurd (let f : control.Reads r.from (symbols_read (b ∷ before)) ≡ control.Reads a [] = sym e ∙ is in cc)
  awaits_first a q (is_shift n r here before rest p split e) is = absurd (let f = sym e ∙ is in cc)
  awaits_first a q (is_write n r here before rest p split e) is = absurd (let f = sym e ∙ is in cc)

  -- the first command of a state is kept at its place
  kept_entry : (a : ℕ) (s : Sending) → a < m.states → IsFirstSent m a (get_or d.entries.items a s)
  kept_entry a s low = let count = draft.entries.counted in draft.entries.each a (get_or d.entries.items a s)
      (slice_get-get_or d.entries.items a s (omega arith))

  pub awaiting_low : (a n : ℕ) (s : Symbols) → n ≡ 0 → IsProper (Reads a n s) → Occurs m (state_of (Reads a n s))
      → a < length d.entries.items
  awaiting_low a n s none proper occurs =
      let first = awaits_first a (control.Reads a (listed s)) occurs
      (ap (control.Reads a) (no_symbols s (sym none ∙ proper))) in
      let low = first.low in
      let count = draft.entries.counted in
      omega arith

module _ (m : Quadruples) (d : Draft) (draft : IsDraft m d) (a n : ℕ) (s : Symbols) (none : n ≡ 0)
    (proper : IsProper (Reads a n s)) (occurs : Occurs m (state_of (Reads a n s))) (k : Sending) where
  name_is : state_of (Reads a n s) ≡ control.Reads a []
  name_is = ap (control.Reads a) (no_symbols s (sym none ∙ proper))

  first_is : (first : Awaits m d draft a) → sending_of (get_or d.entries.items a k)
      ≡ (control.Reads a [], control.Tape first.tape Read)
  first_is first = one_entry m draft.uniform a (sending_of (get_or d.entries.items a k))
      (control.Reads a [], control.Tape first.tape Read) (kept_entry m d draft a k first.low).entry first.entry

  the_first : Awaits m d draft a
  the_first = awaits_first m d draft a (state_of (Reads a n s)) occurs name_is

  -- the line of a first read leads to a tape
  pub not_outside : (get_or d.entries.items a k).line ≡ Outside → ⊥
  not_outside e =
      let line : control.Outside ≡ control.Tape the_first.tape Read =
      ap line_of (sym e) ∙ ap (λ (x : ControlMove). x.1) (first_is the_first) in
      cc

  pub awaited_tape : (t : ℕ) (l : _) → (get_or d.entries.items a k).line ≡ Tape t l → (1 ≤ t) × (t ≤ 3)
  awaited_tape t l e =
      let within = subst (IsWithin d.symbols) e (entry_line m d draft a (get_or d.entries.items a k)
      (kept_entry m d draft a k the_first.low)) in
      (within.0, within.1)

  pub tells_tape : (t : ℕ) (l : _) → (get_or d.entries.items a k).line ≡ Tape t l
      → TellsAwaited m (state_of (Reads a n s)) (Some (a, t))
  tells_tape t l e = record { tells = λ b v. (forth b v, back b v) }
    where
      line : control.Tape t l ≡ control.Tape the_first.tape Read
      line = ap line_of (sym e) ∙ ap (λ (x : ControlMove). x.1) (first_is the_first)

      tape_is : t ≡ the_first.tape
      tape_is = let f = line in cc

      forth : (b v : ℕ) → ◌≡◌ {A = Option (ℕ × ℕ)} (Some (a, t)) (Some (b, v))
          → IsAwaiting m (state_of (Reads a n s)) b v
      forth b v h =
          let parts = some_pair_parts a b t v h in
          subst (λ x. IsAwaiting m (state_of (Reads a n s)) x v) parts.0
          (subst (λ y. IsAwaiting m (state_of (Reads a n s)) a y) parts.1
          (record {
            state = name_is;
            entry = subst (λ y. IsEntry m a (control.Reads a [], control.Tape y Read)) (sym tape_is) the_first.entry;
          }))

      back : (b v : ℕ) → IsAwaiting m (state_of (Reads a n s)) b v
          → ◌≡◌ {A = Option (ℕ × ℕ)} (Some (a, t)) (Some (b, v))
      back b v h =
          let state : control.Reads a [] ≡ control.Reads b [] = sym name_is ∙ h.state in
          let same : a ≡ b = cc in
          let moves = one_entry m draft.uniform a (control.Reads a [], control.Tape the_first.tape Read)
          (control.Reads a [], control.Tape v Read) the_first.entry
          (subst (λ x. IsEntry m x (control.Reads x [], control.Tape v Read)) (sym same) h.entry) in
          let lines : control.Tape the_first.tape Read ≡ control.Tape v Read = ap (λ (x : ControlMove). x.1) moves in
          let tapes : the_first.tape ≡ v = cc in
          λ i. Some (same i, (tape_is ∙ tapes) i)

-- ---- lists, one element more

pushed : {A : Type 0} (xs : List A) (x y : A) (n : ℕ) → slice_get (xs ++ x ∷ []) n ≡ Some y
    → (slice_get xs n ≡ Some y) ⊎ ((n ≡ length xs) × (x ≡ y))
pushed [] x y zero e = inr (refl, cc)
pushed [] x y (suc n) e = absurd (cc)
pushed (z ∷ xs) x y zero e = inl e
pushed (z ∷ xs) x y (suc n) e = elim (pushed xs x y n e) [ inl old ↦ inl old | inr new ↦ inr (ap suc new.0, new.1) ]

pub one_first : (m : Quadruples) (ss : List StateName) (k : ℕ) (fs gs : List (Option (ℕ × ℕ))) (f : Option (ℕ × ℕ))
    → gs ≡ fs ++ f ∷ [] → IsFirstKept m (map state_of ss) k f → AreFirsts m ss k fs → AreFirsts m ss (k + 1) gs
one_first m ss k fs gs f is kept far = subst (AreFirsts m ss (k + 1)) (sym is)
    (record { counted = counted; each = each })
  where
    counted : length (fs ++ f ∷ []) ≡ k + 1
    counted = let count = far.counted in omega (arith, length-append fs (f ∷ []))

    each : (a : ℕ) (g : Option (ℕ × ℕ)) → slice_get (fs ++ f ∷ []) a ≡ Some g → IsFirstKept m (map state_of ss) a g
    each a g e = elim (pushed fs f g a e) [
      | inl old ↦ far.each a g old
      | inr new ↦ subst (λ n. IsFirstKept m (map state_of ss) n g) (sym (new.0 ∙ far.counted))
          (subst (IsFirstKept m (map state_of ss) k) new.1 kept)
    ]

pub one_awaited : (m : Quadruples) (ss : List StateName) (k : ℕ) (d : StateName) (os ps : List (Option (ℕ × ℕ)))
    (o : Option (ℕ × ℕ)) → k < length ss → ps ≡ os ++ o ∷ [] → TellsAwaited m (state_of (get_or ss k d)) o
    → AreAwaited m (take k ss) os → AreAwaited m (take (k + 1) ss) ps
one_awaited m ss k d os ps o low is tells far = subst (λ l. AreAwaited m l ps) (sym (take_more ss k d low))
    (subst (AreAwaited m (take k ss ++ get_or ss k d ∷ [])) (sym is) (record { counted = counted; each = each }))
  where
    counted : length (os ++ o ∷ []) ≡ length (take k ss ++ get_or ss k d ∷ [])
    counted = let count = far.counted in omega (
      arith,
      length-append os (o ∷ []),
      length-append (take k ss) (get_or ss k d ∷ []),
    )

    each : (n : ℕ) (x : StateName) (p : Option (ℕ × ℕ)) → slice_get (take k ss ++ get_or ss k d ∷ []) n ≡ Some x
        → slice_get (os ++ o ∷ []) n ≡ Some p → TellsAwaited m (state_of x) p
    each n x p e f = by (pushed (take k ss) (get_or ss k d) x n e) (pushed os o p n f)
      where
        by : (slice_get (take k ss) n ≡ Some x) ⊎ ((n ≡ length (take k ss)) × (get_or ss k d ≡ x))
            → (slice_get os n ≡ Some p) ⊎ ((n ≡ length os) × (o ≡ p)) → TellsAwaited m (state_of x) p
        by (inl a) (inl b) = far.each n x p a b
        by (inl a) (inr b) = let low = slice_get_within (take k ss) n x a in let at = b.0 in let count =
            far.counted in absurd (omega arith)
        by (inr a) (inl b) = let low = slice_get_within os n p b in let at = a.0 in let count =
            far.counted in absurd (omega arith)
        by (inr a) (inr b) = subst (TellsAwaited m (state_of x)) b.1
            (subst (λ y. TellsAwaited m (state_of y) o) a.1 tells)

-- the first command at a place of a draft
pub entry_at : (m : Quadruples) (d : Draft) → IsDraft m d → (k : ℕ) (s : Sending) → k < length d.entries.items
    → IsFirstSent m k (get_or d.entries.items k s)
entry_at m d draft k s low = draft.entries.each k (get_or d.entries.items k s)
    (slice_get-get_or d.entries.items k s low)

-- the state at a place
pub state_at : (m : Quadruples) (d : Draft) → IsDraft m d → (k : ℕ) (x : StateName) → k < length d.states.items
    → Occurs m (state_of (get_or d.states.items k x)) × IsProper (get_or d.states.items k x)
state_at m d draft k x low =
    let here = slice_get-get_or d.states.items k x low in (
      draft.ordered.numbering.only k (state_of (get_or d.states.items k x))
          (named_at d.states.items k (get_or d.states.items k x) here),
      draft.ordered.proper k (get_or d.states.items k x) here,
    )

-- the same where a state is kept so
module _ (m : Quadruples) (d : Draft) (draft : IsDraft m d) (x : StateName) (a n : ℕ) (s : Symbols)
    (is : x ≡ Reads a n s) (none : n ≡ 0) (k : Sending) (value : k ≡ get_or d.entries.items a k)
    (occurs : Occurs m (state_of x)) (proper : IsProper x) where
  proper_read : IsProper (Reads a n s)
  proper_read = subst IsProper is proper

  occurs_read : Occurs m (state_of (Reads a n s))
  occurs_read = subst (λ y. Occurs m (state_of y)) is occurs

  pub read_tells : (t : ℕ) (l : CellLine) → k.line ≡ Tape t l → TellsAwaited m (state_of x) (Some (a, t))
  read_tells t l e = subst (λ y. TellsAwaited m (state_of y) (Some (a, t))) (sym is)
      (tells_tape m d draft a n s none proper_read occurs_read k t l (ap (λ (y : Sending). y.line) (sym value) ∙ e))

  pub read_tape : (t : ℕ) (l : CellLine) → k.line ≡ Tape t l → (1 ≤ t) × (t ≤ 3)
  read_tape t l e = awaited_tape m d draft a n s none proper_read occurs_read k t l
      (ap (λ (y : Sending). y.line) (sym value) ∙ e)

  pub read_inside : k.line ≡ Outside → ⊥
  read_inside e = not_outside m d draft a n s none proper_read occurs_read k
      (ap (λ (y : Sending). y.line) (sym value) ∙ e)

pub read_low : (m : Quadruples) (d : Draft) → IsDraft m d → (x : StateName) (a n : ℕ) (s : Symbols) → x ≡ Reads a n s
    → n ≡ 0 → Occurs m (state_of x) → IsProper x → a < length d.entries.items
read_low m d draft x a n s is none occurs proper = awaiting_low m d draft a n s none (subst IsProper is proper)
    (subst (λ y. Occurs m (state_of y)) is occurs)
