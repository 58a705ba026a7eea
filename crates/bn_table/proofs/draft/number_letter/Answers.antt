-- A letter that is there keeps its number, and a new one gets the next.
use Rattle.std.proofs.Common.{◌≡◌, sym, refl, rules, true, position, Some, None, vec_len, length, arith, nat_eq}
use Rattle.std.proofs.lemmas.Bool.Decides.{Decides-eqb}
use Rattle.std.specs.Result.{is_ok}
use Rattle.bn_csv.proofs.NumberingLemmas.{number_of_last}
use Rattle.bn_csv.proofs.PlaceFacts.{found_by, missing_by}
use Rattle.bn_table.proofs.draft.number_letter.Goals as goal

pub returns-in-Some-clause-letters : goal.returns-in-Some-clause-letters
returns-in-Some-clause-letters c =
    let at : position (nat_eq c.args.letter) c.args.letters.now.items ≡ Some c.in-Some.symbol =
    rw (← c.as_slice.ensures.value) (sym c.in-Some.ensures.place) in
    rw (found_by nat_eq Decides-eqb c.args.letter c.args.letters.now.items c.in-Some.symbol at).0 refl

pub returns-in-Some-clause-number : goal.returns-in-Some-clause-number
returns-in-Some-clause-number c =
    let at : position (nat_eq c.args.letter) c.args.letters.now.items ≡ Some c.in-Some.symbol =
    rw (← c.as_slice.ensures.value) (sym c.in-Some.ensures.place) in
    (found_by nat_eq Decides-eqb c.args.letter c.args.letters.now.items c.in-Some.symbol at).1

pub returns-clause-letters : goal.returns-clause-letters
returns-clause-letters c =
    let at : position (nat_eq c.args.letter) c.args.letters.now.items ≡ None =
    rw (← c.as_slice.ensures.value) (sym c.in_default.ensures.place) in
    let good : is_ok c.push.result ≡ true = search rules in
    rw (missing_by nat_eq Decides-eqb c.args.letter c.args.letters.now.items at) (rw good at c.push.ensures.items)

pub returns-clause-number : goal.returns-clause-number
returns-clause-number c =
    let good : is_ok c.push.result ≡ true = search rules in
    let long : vec_len c.args.letters.now ≡ length c.args.letters.now.items = omega arith in
    rw (rw good at c.push.ensures.items, c.len-symbol.ensures, long)
    (number_of_last c.args.letters.now.items c.args.letter)
