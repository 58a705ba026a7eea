-- What is known of the machine of a table that is read, and of words on its tapes.
use Rattle.std.specs.Prelude.{◌≡◌, ℕ, zero, suc, ◌<◌, List}
use Rattle.std.proofs.Common.{arith, ap}
use Rattle.bn_csv.specs.Entries.{entries_of}
use Rattle.bn_quad.specs.Calls.{IsUniformMachine}
use Rattle.bn_qtable.specs.Reading.{ReadsQuadruples}
use Rattle.bn_qtable.specs.Rows.{QuadTable, counts_of}
use Rattle.bn_qtable.specs.TapeWords.{TapeWords}
use Rattle.bn_qtable.proofs.Growing.{few-of}
use Rattle.bn_renumbering.proofs.BackLemmas.{as_many, table_machine}
use Rattle.bn_network.specs.Controls.{symbol_count}
use Rattle.bn_network.specs.Networks.{IsTape}
use Rattle.bn_network.specs.Starts.{AreInputs}
use Rattle.bn_machine.specs.Outcome.{Limits}
use Rattle.bn_quad.specs.Quadruples.{Quadruples}
use Rattle.bn_reply_machines.specs.NamedWords.{AreNamedBy}
use Rattle.bn_reply_machines.proofs.AlphabetLemmas.{read_alphabet, some_symbol}
use Rattle.bn_reply_builds.specs.BuildReply.{HaveRoom}
use Rattle.bn_reply_builds.specs.Buildable.{AreLettersOf, IsBuildable}

module _ (bytes : List ℕ) (t : QuadTable) (reads : ReadsQuadruples bytes t) where
  -- as many symbols as names
  count_on : (k : ℕ) → symbol_count t.machine k
      ≡ symbol_count (record { rules = t.machine.rules; states = t.machine.states; symbols = counts_of t.names }) k
  count_on k = ap (λ (zs : List ℕ).
      symbol_count (record { rules = t.machine.rules; states = t.machine.states; symbols = zs }) k) reads.symbols

  some_letters : (k : ℕ) → IsTape k → 0 < symbol_count t.machine k
  some_letters zero tape = absurd (let low = tape.low in omega arith)
  some_letters (suc zero) tape =
      let count = count_on 1 in
      let some = some_symbol t.names.one (read_alphabet bytes t 1 reads (omega arith)) in
      omega arith
  some_letters (suc (suc zero)) tape =
      let count = count_on 2 in
      let some = some_symbol t.names.two (read_alphabet bytes t 2 reads (omega arith)) in
      omega arith
  some_letters (suc (suc (suc zero))) tape =
      let count = count_on 3 in
      let some = some_symbol t.names.three (read_alphabet bytes t 3 reads (omega arith)) in
      omega arith
  some_letters (suc (suc (suc (suc k)))) tape = absurd (let high = tape.high in omega arith)

  pub buildable : IsUniformMachine t.machine → IsBuildable t.machine
  buildable uniform =
      let count = as_many (entries_of bytes) t reads in
      let few = reads.few in
      let states = (few-of t.names t.machine.rules (entries_of bytes) reads.spelled).states in
      let known = reads.states in
      record {
        valid = table_machine (entries_of bytes) t reads;
        uniform = uniform;
        letters = some_letters;
        quadruples = omega arith;
        states = omega arith;
      }

  pub letters_of : (words : TapeWords) (one two three : List ℕ) → AreNamedBy words t.names one two three →
      AreLettersOf t.machine one two three
  letters_of words one two three h = record {
    on_one = λ k d inside. (
        let known = (h.on_one.symbols_known k d inside).known in
        let count = count_on 1 in
        omega arith);
    on_two = λ k d inside. (
        let known = (h.on_two.symbols_known k d inside).known in
        let count = count_on 2 in
        omega arith);
    on_three = λ k d inside. (
        let known = (h.on_three.symbols_known k d inside).known in
        let count = count_on 3 in
        omega arith);
  }

-- words of their tapes' symbols that have room
pub inputs_of : (m : Quadruples) (l : Limits) (one two three : List ℕ) → AreLettersOf m one two three →
    HaveRoom l one two three → AreInputs m l one two three
inputs_of m l one two three letters room = record {
  one_letters = letters.on_one;
  two_letters = letters.on_two;
  three_letters = letters.on_three;
  one_room = room.on_one;
  two_room = room.on_two;
  three_room = room.on_three;
}
