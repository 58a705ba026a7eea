-- No entry, and the blank's letter.
use Rattle.std.proofs.Common.{◌≡◌, rules, true}
use Rattle.std.specs.Result.{is_ok}
use Rattle.bn_table.proofs.Growing.{none-drafted}
use Rattle.bn_table.proofs.draft.new_draft.Goals as goal

pub returns : goal.returns
returns c =
    let good : is_ok c.push.result ≡ true = search rules in
    let one = rw (good, c.new-letters.ensures.items) at c.push.ensures.items in
    none-drafted c.new.result c.push.new.self.items c.new-2.result.items c.new.ensures one c.new-2.ensures.items
