-- One more entry, and its quintuple.
use Rattle.std.proofs.Common.{◌≡◌, ◌<◌, ◌++◌, ◌∷◌, [], refl, arith, rules, true, length}
use Rattle.std.specs.Result.{is_ok}
use Rattle.std.proofs.Common.{nat_eq}
use Rattle.std.specs.Prelude.{bytes_eq}
use Rattle.bn_csv.specs.Numbering.{with_name}
use Rattle.bn_csv.proofs.AddedLemmas.{new_length, new_stays}
use Rattle.bn_machine.specs.declared.quint.Quint.{Quint}
use Rattle.bn_table.specs.Draft.{drafted}
use Rattle.bn_table.specs.Fields.{said}
use Rattle.bn_table.specs.Rows.{with_letter}
use Rattle.bn_table.specs.declared.entry.TheConstants.{MOST_ENTRIES}
use Rattle.bn_table.proofs.Bounds.{few-letters, few-names}
use Rattle.bn_table.proofs.Growing.{Adds, one-drafted}
use Rattle.bn_table.proofs.draft.add_fields.Goals as goal

pub number_of-requires : goal.number_of-requires
number_of-requires c =
    let d = c.args.draft.now in
    let few : length (drafted d) < MOST_ENTRIES = c.requires.few in
    record { room = omega (arith, few-names d.names d.letters.items d.quints.items (drafted d) c.requires.draft) }

pub number_letter-requires : goal.number_letter-requires
number_letter-requires c =
    let d = c.args.draft.now in
    let few : length d.letters.items < 4294967295 = omega (
      arith,
      few-letters d.names d.letters.items d.quints.items (drafted d) c.requires.draft,
    ) in few

pub number_letter-requires-2 : goal.number_letter-requires-2
number_letter-requires-2 c =
    let d = c.args.draft.now in
    let after : c.number_letter.new.letters.items ≡ with_letter d.letters.items c.args.fields.now.read =
    c.in_ok-read.ensures.letters in
    rw after (omega (
      arith,
      few-letters d.names d.letters.items d.quints.items (drafted d) c.requires.draft,
      new_length nat_eq d.letters.items c.args.fields.now.read,
    ))

pub number_of-requires-2 : goal.number_of-requires-2
number_of-requires-2 c =
    let d = c.args.draft.now in
    let few : length (drafted d) < MOST_ENTRIES = c.requires.few in
    let after : c.number_of.new.self ≡ with_name d.names c.args.fields.now.state.now = c.in_ok-state.ensures.names in
    record {
      room = rw after (omega (
        arith,
        few-names d.names d.letters.items d.quints.items (drafted d) c.requires.draft,
        new_length bytes_eq d.names c.args.fields.now.state.now,
      ));
    }

pub returns : goal.returns
returns c =
    let d = c.args.draft.now in
    let s = said c.args.fields.now in
    let q : Quint = record {
      state = c.in_ok-state.state;
      read = c.in_ok-read.read;
      write = c.in_ok-write.write;
      shift = c.args.fields.now.shift;
      next = c.in_ok-next.next;
    } in
    let good : is_ok c.push.result ≡ true = search rules in
    let pushed : c.push.new.self.items ≡ d.quints.items ++ q ∷ [] = rw good at c.push.ensures.items in
    let names1 : c.number_of.new.self ≡ with_name d.names s.state = c.in_ok-state.ensures.names in
    let names2 : c.number_of-2.new.self ≡ with_name c.number_of.new.self s.next = c.in_ok-next.ensures.names in
    let letters1 : c.number_letter.new.letters.items ≡ with_letter d.letters.items s.read =
    c.in_ok-read.ensures.letters in
    let letters2 : c.number_letter-2.new.letters.items ≡ with_letter c.number_letter.new.letters.items s.write =
    c.in_ok-write.ensures.letters in
    let adds : Adds d.names d.letters.items s q c.number_of-2.new.self c.number_letter-2.new.letters.items = record {
      names_after = rw (← names1) names2;
      letters_after = rw (← letters1) letters2;
      state = rw names2 (new_stays bytes_eq c.number_of.new.self s.next s.state q.state c.in_ok-state.ensures.number);
      read = rw letters2 (new_stays nat_eq c.number_letter.new.letters.items s.write s.read q.read
          c.in_ok-read.ensures.number);
      write = c.in_ok-write.ensures.number;
      next = c.in_ok-next.ensures.number;
      shift = refl;
      forms = c.requires.forms;
    } in
    one-drafted d.names d.letters.items d.quints.items s q c.number_of-2.new.self c.number_letter-2.new.letters.items
    c.push.new.self.items c.requires.draft adds pushed
