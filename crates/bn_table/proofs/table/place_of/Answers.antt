-- The letter's place in the list.
use Rattle.std.proofs.Common.{◌≡◌, ◌<◌, sym, arith, length, position, Some, None, nat_eq}
use Rattle.std.proofs.lemmas.Bool.Decides.{Decides-eqb}
use Rattle.std.proofs.lemmas.Option.{slice_get_within}
use Rattle.bn_csv.proofs.PlaceFacts.{found_by, missing_by, not-contained}
use Rattle.bn_table.proofs.table.place_of.Goals as goal

pub overflow_cast-result : goal.overflow_cast-result
overflow_cast-result c =
    let letters = c.args.letters.now in
    let at : position (nat_eq c.args.letter) letters ≡ Some c.in-Some.place = sym c.in-Some.ensures in
    let within : c.in-Some.place < length letters = slice_get_within letters c.in-Some.place c.args.letter
    (found_by nat_eq Decides-eqb c.args.letter letters c.in-Some.place at).1 in
    omega arith

pub returns-in-Some-clause-found : goal.returns-in-Some-clause-found
returns-in-Some-clause-found c =
    let letters = c.args.letters.now in
    let at : position (nat_eq c.args.letter) letters ≡ Some c.in-Some.place = sym c.in-Some.ensures in
    (found_by nat_eq Decides-eqb c.args.letter letters c.in-Some.place at).1

pub returns-in-None-clause-none : goal.returns-in-None-clause-none
returns-in-None-clause-none c =
    let letters = c.args.letters.now in
    let at : position (nat_eq c.args.letter) letters ≡ None = sym c.in-None.ensures in
    not-contained nat_eq Decides-eqb c.args.letter letters (missing_by nat_eq Decides-eqb c.args.letter letters at)
