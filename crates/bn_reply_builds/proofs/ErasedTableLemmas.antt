-- The table that `erase` wrote, as it is read.
use Rattle.std.specs.Prelude.{◌≡◌, ℕ, suc, ◌≤◌, List, ◌∷◌, length, max, Some, slice_index}
use Rattle.std.proofs.Common.{zero, arith, sym, ap, subst, ◌∙◌}
use Rattle.std.proofs.lemmas.List.{length-map}
use Rattle.std.proofs.lemmas.List.FromFn.{length-range_with_len}
use Rattle.bn_lists.specs.Lists.{nth, IsIn}
use Rattle.bn_csv.specs.Entries.{entries_of}
use Rattle.bn_csv.specs.Numbering.{firsts}
use Rattle.bn_circuits.specs.declared.place.Place.{Place}
use Rattle.bn_quad.specs.Calls.{IsUniformMachine}
use Rattle.bn_qtable.specs.Reading.{ReadsQuadruples}
use Rattle.bn_qtable.specs.Rows.{QuadTable, blank_name, symbol_names_in}
use Rattle.bn_table.specs.Rows.{Named}
use Rattle.std.specs.List.{range_with_len}
use Rattle.std.specs.Prelude.{decimal}
use Rattle.bn_bennett.specs.Printed.{one_byte}
use Rattle.bn_bennett_laws.specs.Renamed.{renamed}
use Rattle.bn_bennett_laws.specs.Stages.{IsStandardMachine}
use Rattle.bn_bennett_laws.proofs.RepeatLemmas.{fewer_in, apart_by_places}
use Rattle.bn_erase.specs.Joint.{IsJoint, Joint, joined}
use Rattle.bn_erase.specs.Made.{Erasure, IsErasing, name_of}
use Rattle.bn_erase.specs.Printed.{history_names, letter_names, names_of}
use Rattle.bn_erase.proofs.ClosedLemmas.{erasings_uniform}
use Rattle.bn_renumbering.specs.Renumbering.{KeepNames, ReadsBack}
use Rattle.bn_renumbering.proofs.BackLemmas.{firsts_once}
use Rattle.bn_renumbering.proofs.TableLemmas.{erasings-tables}
use Rattle.bn_network.specs.Controls.{symbol_count}
use Rattle.bn_reply.specs.Answering.{IsDone}
use Rattle.bn_reply.specs.declared.status.Status.{Status}
use Rattle.bn_reply.specs.declared.status.Status.TheVariants as statuses
use Rattle.bn_reply.proofs.TableLemmas.{reads_table}
use Rattle.bn_reply_erase.specs.EraseReply.{CountedReplies, EraseReplies, erase_text, few}
use Rattle.bn_reply_erase.specs.EraseReply as erase
use Rattle.bn_reply_erase.proofs.JudgedLemmas.{both_standard, joint_of_tables}
use Rattle.bn_reply_erase.proofs.PairLemmas.{ReadBoth, pair_tells, two_tells}
use Rattle.bn_reply_erase.proofs.TextLemmas.{erased_text}
use Rattle.bn_reply_builds.specs.BuildReply.{IsUncrowded}
use Rattle.bn_reply_builds.specs.ErasedDrives.{AreErasedBy}

-- ---- what was printed

module _ (bytes word table : List ℕ) (silent : List Place) (printed : EraseReplies bytes statuses.Done table silent)
    (t u : Named) (x : List ℕ) (pair : AreErasedBy bytes word t u x) where
  both : ReadBoth pair.first pair.second t u
  both = record { reads = pair.reads; also = pair.also; standard = pair.standard; fit = pair.fit }

  pub joint : IsJoint (joined t u)
  joint = joint_of_tables t u (reads_table pair.first t pair.reads) (reads_table pair.second u pair.also)

  pub standard : IsStandardMachine (joined t u).first × IsStandardMachine (joined t u).second
  standard = both_standard pair.first pair.second t u both

  abbrev Counted : Named → Named → Status → List ℕ → List Place → Type 0
  Counted a b = CountedReplies (IsDone (erase_text (joined a b))) (joined a b)

  pub table_is : (table ≡ erase_text (joined t u)) × (length (erase.erasing_of (joined t u)) ≤ 20000)
  table_is =
      by_count (two_tells Counted pair.first pair.second t u statuses.Done table silent both
      (pair_tells Counted bytes pair.first pair.second statuses.Done table silent pair.cut printed))
    where
      by_count : CountedReplies (IsDone (erase_text (joined t u))) (joined t u) statuses.Done table silent
          → (table ≡ erase_text (joined t u)) × (length (erase.erasing_of (joined t u)) ≤ 20000)
      by_count (erase.many more is_text is_status quiet) = absurd (cc)
      by_count (few h done) = (done.text_is, h)

  module _ (e : Erasure) (is : IsErasing (joined t u).first (joined t u).second e) where
    -- the table reads, as the machine that was joined but for the numbers, and that machine is uniform
    pub read_table : (r : QuadTable) × ReadsQuadruples table r × ReadsBack e.machine (names_of (joined t u) e) r
        × IsUniformMachine r.machine
    read_table =
        let long : length e.machine.rules ≤ 20000 =
        subst (λ n. n ≤ 20000) (sym (ap length is.rules) ∙ length-map e.machine.rules (renamed (name_of e))) table_is.1
        in
        let read = erasings-tables erasings_uniform (joined t u) e table joint is long
        (table_is.0 ∙ sym (erased_text (joined t u) e is)) in
        (read.0, read.1, read.2, read.3 standard.0 standard.1)

-- ---- how many symbols

-- no more names than those that they are kept among
fewer_names : (renumber : ℕ → ℕ) (xs before after : List (List ℕ)) → before ≡ firsts xs
    → KeepNames renumber before after → length before ≤ length after
fewer_names renumber xs before after is keeps =
    fewer_in before after (apart_by_places before (λ m n name. firsts_once xs before is m n name))
    (λ name h. by_place name h.place h.stands)
  where
    by_place : (name : List ℕ) (k : ℕ) → nth before k ≡ Some name → IsIn after name
    by_place name zero at = absurd (cc)
    by_place name (suc n) at = record { place = suc (renumber n); stands = keeps n name at }

module _ (j : Joint) (joint : IsJoint j) (e : Erasure) (table : List ℕ) (r : QuadTable)
    (reads : ReadsQuadruples table r) (back : ReadsBack e.machine (names_of j e) r) where
  abbrev entries : List (List (List ℕ))
  entries = entries_of table

  letters_few : length (letter_names j) ≤ 91
  letters_few =
      let long = length-map j.letters one_byte in
      let count = joint.first_symbols in
      let fits = joint.first_fits.symbols in
      omega arith

  history_few : length (history_names j) ≤ 4001
  history_few =
      let most : ℕ = max (length j.first.quints) (length j.second.quints) in
      let long = length-map (range_with_len 1 most) decimal in
      let numbers = length-range_with_len 1 most in
      let one = joint.first_fits.quints in
      let two = joint.second_fits.quints in
      omega arith

  pub uncrowded : IsUncrowded r.machine
  uncrowded zero tape = absurd (let low = tape.low in omega arith)
  uncrowded (suc zero) tape =
      let few = fewer_names back.renumbering.one (blank_name ∷ symbol_names_in 1 entries) r.names.one (letter_names j)
      reads.spelled.one_by_first back.one in
      let count : symbol_count r.machine 1 ≡ length r.names.one = ap (λ zs. slice_index zs 0) reads.symbols in
      omega (arith, letters_few)
  uncrowded (suc (suc zero)) tape =
      let few = fewer_names back.renumbering.two (blank_name ∷ symbol_names_in 2 entries) r.names.two (history_names j)
      reads.spelled.two_by_first back.two in
      let count : symbol_count r.machine 2 ≡ length r.names.two = ap (λ zs. slice_index zs 1) reads.symbols in
      omega (arith, history_few)
  uncrowded (suc (suc (suc zero))) tape =
      let few = fewer_names back.renumbering.three (blank_name ∷ symbol_names_in 3 entries) r.names.three
      (letter_names j) reads.spelled.three_by_first back.three in
      let count : symbol_count r.machine 3 ≡ length r.names.three = ap (λ zs. slice_index zs 2) reads.symbols in
      omega (arith, letters_few)
  uncrowded (suc (suc (suc (suc k)))) tape = absurd (let high = tape.high in omega arith)
