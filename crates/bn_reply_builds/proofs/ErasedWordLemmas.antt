-- The word on tape 1, by the names of the table that is read.
use Rattle.std.specs.Prelude.{◌≡◌, ◌≢◌, ℕ, ◌<◌, List, [], ◌∷◌, length, map, Some, slice_get, slice_index}
use Rattle.std.specs.Prelude.{slice_index_or}
use Rattle.std.proofs.Common.{suc, arith, sym, ap, subst, ◌∙◌, refl, get_or}
use Rattle.std.proofs.lemmas.Option.{slice_get-get_or, slice_get-map, same_Some}
use Rattle.std.proofs.lemmas.List.Elements.{All-cons}
use Rattle.std.specs.Option.{option_map}
use Rattle.bn_lists.specs.Lists.{IsIn}
use Rattle.bn_machine.specs.Machine.{Program}
use Rattle.bn_quad.specs.Quadruples.{AreDeedsInRange, Deed, IsRuleInRange, Move, Rewrite, Rule}
use Rattle.bn_qtable.specs.Reading.{ReadsQuadruples}
use Rattle.bn_qtable.specs.Rows.{QuadTable, counts_of}
use Rattle.bn_bennett.specs.Printed.{one_byte}
use Rattle.bn_bennett_laws.specs.List.{bennett, copies_letter}
use Rattle.bn_bennett_laws.specs.Renamed.{renamed}
use Rattle.bn_bennett_laws.proofs.ListLemmas.{has_copies_letter}
use Rattle.bn_bennett_laws.proofs.MembershipLemmas.{from_map, in_left, in_map}
use Rattle.bn_erase_laws.specs.Erasing.{first_half, second_half}
use Rattle.bn_erase_laws.specs.declared.name.ErasingName.{ErasingName}
use Rattle.bn_erase_laws.specs.declared.name.ErasingName.TheVariants.{First}
use Rattle.bn_erase.specs.Joint.{IsJoint, Joint}
use Rattle.bn_erase.specs.Made.{Erasure, IsErasing, name_of}
use Rattle.bn_erase.specs.Printed.{letter_names, names_of}
use Rattle.bn_renumbering.specs.Renumbering.{ReadsBack, Renumbering, renumbered_deed, renumbered_rule}
use Rattle.bn_renumbering.proofs.BackLemmas.{in_all}
use Rattle.bn_reply.specs.Words.{IsSpelledBy}
use Rattle.bn_reply_erase.specs.EraseReply.{lettered}
use Rattle.bn_reply_machines.specs.NamedWords.{IsNamedBy, IsSymbolOn}

-- a quadruple of the erasing machine that keeps a letter of tape 1
in_first_half : (p : Program) (a : ℕ) → 0 < a → a < p.symbols
    → IsIn (first_half p) (renamed First (copies_letter (length p.quints) a))
unfolding first_half
in_first_half p a some low =
    in_map (renamed First) (bennett p) (copies_letter (length p.quints) a) (has_copies_letter p a some low)

module _ (j : Joint) (joint : IsJoint j) (e : Erasure) (is : IsErasing j.first j.second e) (table : List ℕ)
    (r : QuadTable) (reads : ReadsQuadruples table r) (back : ReadsBack e.machine (names_of j e) r) where
  abbrev k : Renumbering
  k = back.renumbering

  -- the symbol of the read table's tape 1 that has this number with the other numbers
  abbrev Known : ℕ → Type 0
  Known a = (s : ℕ) × (s < length r.names.one) × (k.one s ≡ a)

  known_by : (a : ℕ) (d : Deed) → renumbered_deed k.one d ≡ Rewrite a a → (rest : List Deed)
      → AreDeedsInRange r.machine.symbols (d ∷ rest) → Known a
  known_by a (Rewrite s written) same rest range =
      let inside : AreDeedsInRange (counts_of r.names) (Rewrite s written ∷ rest) =
      subst (λ zs. AreDeedsInRange zs (Rewrite s written ∷ rest)) reads.symbols range in
      (s, inside.0.0, cc)
  known_by a (Move s) same rest range = absurd (cc)

  known_letter : (a : ℕ) → 0 < a → a < j.first.symbols → Known a
  known_letter a some low =
      let rule : Rule ErasingName = renamed First (copies_letter (length j.first.quints) a) in
      let listed = in_left (first_half j.first) (second_half j.first j.second) rule (in_first_half j.first a some low)
      in
      let numbered = from_map (renamed (name_of e)) e.machine.rules rule
      (subst (λ rs. IsIn rs rule) (sym is.rules) listed) in
      let read = from_map (renumbered_rule k) r.machine.rules numbered.0
      (subst (λ rs. IsIn rs numbered.0) (sym back.is_renumbering.rules) numbered.1) in
      let deed : renumbered_deed k.one read.0.one ≡ Rewrite a a =
      ap (λ (q : Rule ℕ). q.one) read.2 ∙ ap (λ (q : Rule ErasingName). q.one) numbered.2 in
      let range = (in_all (IsRuleInRange r.machine.states r.machine.symbols) r.machine.rules read.0
      back.machine.in_range read.1).deeds in
      known_by a read.0.one deed (read.0.two ∷ read.0.three ∷ []) range

  -- the word by the read table's names
  abbrev Named : List ℕ → List ℕ → Type 0
  Named word x = (z : List ℕ) × IsNamedBy r.names.one (map (λ b. b ∷ []) word) z × (map k.one z ≡ x)

  blank_stays : k.one 0 ≡ 0
  blank_stays =
      (back.is_renumbering.one (length r.names.one) (ap (λ (zs : List ℕ). slice_get zs 0) reads.symbols)).blank

  letter_named : (b a s : ℕ) → a < length j.letters → b ≡ slice_index j.letters a → s < length r.names.one
      → k.one s ≡ a → slice_index_or r.names.one s [] ≡ b ∷ []
  letter_named b a s low is_letter known same =
      let name : List ℕ = get_or r.names.one s [] in
      let after = back.one s name (slice_get-get_or r.names.one s [] known) in
      let there : slice_get (letter_names j) a ≡ Some (slice_index j.letters a ∷ []) =
      slice_get-map one_byte j.letters a ∙ ap (option_map one_byte) (slice_get-get_or j.letters a 0 low) in
      let both : Some name ≡ Some (slice_index j.letters a ∷ []) =
      sym after ∙ ap (slice_get (letter_names j)) same ∙ there in
      same_Some name (slice_index j.letters a ∷ []) both ∙ ap (λ c. c ∷ []) (sym is_letter)

  pub word_named : (word x : List ℕ) → IsSpelledBy (lettered j) word x → Named word x
  word_named [] [] h = ([], record { spelled = refl; symbols_known = λ i d low. absurd (omega arith) }, refl)
  word_named [] (a ∷ x) h = absurd (let both = h.letters in cc)
  word_named (b ∷ word) [] h = absurd (let both = h.letters in cc)
  word_named (b ∷ word) (a ∷ x) h =
      let first = h.symbols_known 0 a (omega arith) in
      let inside : a < length j.letters = first.known in
      let nonblank : a ≢ 0 = first.letter in
      let count = joint.first_symbols in
      let found = known_letter a (omega arith) (omega arith) in
      let letter : b ≡ slice_index j.letters a = let both = h.letters in cc in
      let rest = word_named word x (record {
        letters = let both = h.letters in cc;
        symbols_known = λ i d low. h.symbols_known (suc i) d (omega arith);
      }) in
      let name = letter_named b a found.0 inside letter found.1 found.2 in (
        found.0 ∷ rest.0,
        record {
          spelled = λ i. sym name i ∷ rest.1.spelled i;
          symbols_known = All-cons (IsSymbolOn r.names.one) found.0 rest.0 (record {
            nonblank = λ blank_is. nonblank (sym found.2 ∙ ap k.one blank_is ∙ blank_stays);
            known = found.1;
          }) rest.1.symbols_known;
        },
        λ i. found.2 i ∷ rest.2 i,
      )
