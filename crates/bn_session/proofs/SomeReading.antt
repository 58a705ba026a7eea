-- Bytes are read to their end, or to their first fault.
use Rattle.std.specs.Prelude.{◌≡◌, ◌≢◌, bytes_eq, ℕ, zero, suc, ◌+◌, ◌<◌, true, false, List, [], ◌∷◌, ◌++◌, length}
use Rattle.std.specs.Prelude.{position, Option, Some, None, is_some, Contains, ◌⊎◌, refl}
use Rattle.std.specs.List.{list_any}
use Rattle.std.proofs.Common.{sym, ap, ◌∙◌, arith, inl, inr, get_or}
use Rattle.std.proofs.lemmas.Bool.{cases_Bool}
use Rattle.std.proofs.lemmas.Bool.Decides.{eqb_tells}
use Rattle.std.proofs.lemmas.List.Elements.{All-nil, All-cons}
use Rattle.std.proofs.lemmas.List.Folds.{list_any_at}
use Rattle.std.proofs.lemmas.Option.{slice_get_within, slice_get-get_or}
use Rattle.std.proofs.lemmas.Slice.Eq.{bytes_eq-Decides}
use Rattle.bn_base.specs.Line.{IsInLine}
use Rattle.bn_csv.proofs.PlaceFacts.{found, missing}
use Rattle.bn_session.specs.Labels.{stands, standing_after, standing_by}
use Rattle.bn_session.specs.Sentences.{ScriptSentence, Step, Back, Go, Rev, BreakState, BreakElement, BreakLine}
use Rattle.bn_session.specs.Sentences.{Drop, View}
use Rattle.bn_session.specs.Reading.{sentence_in}
use Rattle.bn_session.specs.Scripts.{Names, state_names, Asks, IsScript, ScriptFault, malformed, no_state, same_break}
use Rattle.bn_session.specs.Scripts.{no_break}
use Rattle.bn_session.specs.Scripts.{IsFaultyLine, BeginsWithFaultyLine, IsFirstScriptFault}
use Rattle.bn_session.specs.Progress.{AsksNext, HasRead}
use Rattle.bn_session.specs.Laws.{ScriptsReadOrFault}
use Rattle.bn_session.specs.declared.command.Command.{Command}
use Rattle.bn_session.specs.declared.command.Command.TheVariants as commands
use Rattle.bn_session.proofs.ReadingLemmas.{IsSaid, sentence_in-takes}
use Rattle.bn_session.proofs.ScriptLemmas.{cut_is_malformed, unsaid, line_fault_begins, faulty_line, none_read}
use Rattle.bn_session.proofs.ScriptLemmas.{one_more_read, shorter, all_read, first_fault}

-- bytes hold a byte 10, or none
cut : (bytes : List ℕ) → IsInLine bytes ⊎ ((line : List ℕ) × (rest : List ℕ) × IsInLine line
    × (bytes ≡ line ++ 10 ∷ rest))
cut [] = inl (All-nil (λ byte. byte ≢ 10))
cut (x ∷ xs) = elim (eqb_tells x 10) [
  | inl same ↦ (let is : x ≡ 10 = same.1 in inr ([], xs, All-nil (λ byte. byte ≢ 10), ap (λ y. y ∷ xs) is))
  | inr other ↦ more other.1 (cut xs)
]
  where
    more : x ≢ 10 → IsInLine xs ⊎ ((line : List ℕ) × (rest : List ℕ) × IsInLine line × (xs ≡ line ++ 10 ∷ rest))
        → IsInLine (x ∷ xs) ⊎ ((line : List ℕ) × (rest : List ℕ) × IsInLine line × (x ∷ xs ≡ line ++ 10 ∷ rest))
    more here (inl all) = inl (All-cons (λ byte. byte ≢ 10) x xs here all)
    more here (inr (line, rest, all, is)) = inr (
      x ∷ line,
      rest,
      All-cons (λ byte. byte ≢ 10) x line here all,
      ap (λ ys. x ∷ ys) is,
    )

not_among : (names : List (List ℕ)) (name : List ℕ) → list_any (bytes_eq name) names ≡ false → ¬ Contains names name
not_among names name none (k, inside, here) =
    clash (sym (list_any_at (bytes_eq name) names k name inside
    ((bytes_eq-Decides name (get_or names k name)).1 (sym here))) ∙ none)
  where
    clash : true ≡ false → ⊥
    clash e = cc

module _ (names : Names) (standing : List (List ℕ)) where
  -- a sentence asks for a command, or has a fault
  asks_or_fails : (s : ScriptSentence) → ((x : Command) × Asks names standing s x)
      ⊎ ((fault : ScriptFault) × IsFaultyLine names standing s fault)
  asks_or_fails (Step e) = inl (commands.Step e, refl)
  asks_or_fails (Back e) = inl (commands.Back e, refl)
  asks_or_fails (Go e) = inl (commands.Go e, refl)
  asks_or_fails (Rev e) = inl (commands.Rev e, refl)
  asks_or_fails (BreakState label name) = by (position (bytes_eq name) (state_names names)) refl
      (cases_Bool (stands label standing))
    where
      by : (o : Option ℕ) → position (bytes_eq name) (state_names names) ≡ o → (stands label standing ≡ true)
          ⊎ (stands label standing ≡ false) → ((x : Command) × Asks names standing (BreakState label name) x)
          ⊎ ((fault : ScriptFault) × IsFaultyLine names standing (BreakState label name) fault)
      by None e stand = inr (no_state, not_among (state_names names) name (missing name (state_names names) e))
      by (Some n) e (inr new) = inl (
        commands.BreakState label n,
        (n, (found name (state_names names) n e).1, new, refl),
      )
      by (Some n) e (inl stand) =
          let at = (found name (state_names names) n e).1 in
          let inside = slice_get_within (state_names names) n name at in
          inr (
            same_break,
            (
              (n, inside, same_name _ _ (sym (slice_get-get_or (state_names names) n name inside) ∙ at)),
              stand,
            ),
          )
        where
          same_name : (a b : List ℕ) → Some a ≡ Some b → a ≡ b
          same_name a b e = cc
  asks_or_fails (BreakElement label e) = elim (cases_Bool (stands label standing))
      [ inl stand ↦ inr (same_break, stand) | inr new ↦ inl (commands.BreakElement label e, (new, refl)) ]
  asks_or_fails (BreakLine label e l) = elim (cases_Bool (stands label standing))
      [ inl stand ↦ inr (same_break, stand) | inr new ↦ inl (commands.BreakLine label e l, (new, refl)) ]
  asks_or_fails (Drop label) = elim (cases_Bool (stands label standing))
      [ inl stand ↦ inl (commands.Drop label, (stand, refl)) | inr new ↦ inr (no_break, new) ]
  asks_or_fails View = inl (commands.View, refl)

  -- what comes next
  data Next (left : List ℕ) : Type 0 where
    ended : left ≡ [] → Next left
    asks : (x : Command) (behind : List ℕ) → AsksNext names standing left x behind (standing_after standing x)
        → Next left
    fails : (fault : ScriptFault) → BeginsWithFaultyLine names standing left fault → Next left

  next_line : (left line rest : List ℕ) (o : Option ScriptSentence) → sentence_in (is_some names) line ≡ o
      → IsInLine line
      → left ≡ line ++ 10 ∷ rest → Next left
  next_line left line rest None e in_line begins = fails malformed
      (line_fault_begins names standing left line rest malformed in_line begins (unsaid (is_some names) line e))
  next_line left line rest (Some s) e in_line begins =
      let said : IsSaid (is_some names) line s = sentence_in-takes (is_some names) line s e in
      elim (asks_or_fails s) [
        | inl a ↦ asks a.0 rest (record {
          says = s;
          begins = begins ∙ ap (λ l. l ++ 10 ∷ rest) said.spelled;
          sayable = said.sayable;
          asked = (a.1, refl);
        })
        | inr f ↦ fails f.0 (line_fault_begins names standing left line rest f.0 in_line begins
            (faulty_line names standing line s f.0 said f.1))
      ]

  next_of : (left : List ℕ) → Next left
  next_of left = by (cut left)
    where
      by : IsInLine left ⊎ ((line : List ℕ) × (rest : List ℕ) × IsInLine line × (left ≡ line ++ 10 ∷ rest)) → Next left
      by (inl all) = some left refl all
        where
          some : (bytes : List ℕ) → left ≡ bytes → IsInLine left → Next left
          some [] e all = ended e
          some (x ∷ xs) e all = fails malformed (cut_is_malformed names left all
              (λ none. let h : x ∷ xs ≡ [] = sym e ∙ none in cc))
      by (inr (line, rest, all, is)) = next_line left line rest (sentence_in (is_some names) line) refl all is

-- bytes are a script, or have a first fault
pub read_or_fault : ScriptsReadOrFault
read_or_fault names bytes = from (suc (length bytes)) bytes [] (omega arith) (none_read names bytes)
  where
    from : (n : ℕ) (left : List ℕ) (xs : List Command) → length left < n → HasRead names bytes left xs
        → ((ys : List Command) × IsScript names bytes ys) ⊎ ((line : ℕ) × (fault : ScriptFault)
        × IsFirstScriptFault names bytes line fault)
    from zero left xs short has = absurd (omega arith)
    from (suc n) left xs short has = elim (next_of names (standing_by xs) left) [
      | ended none ↦ inl (xs, all_read names bytes left xs has none)
      | asks x behind next ↦
          (let more = one_more_read names (standing_by xs) bytes left behind xs x (standing_after (standing_by xs) x)
          has refl next in
          let fewer = shorter names (standing_by xs) left behind x (standing_after (standing_by xs) x) next in
          from n behind (xs ++ x ∷ []) (omega arith) more.0)
      | fails fault h ↦ inr (
        length xs + 1,
        fault,
        first_fault names (standing_by xs) bytes left xs has refl (length xs + 1) fault (refl, h),
      )
    ]
