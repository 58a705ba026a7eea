use Rattle.std.proofs.Common.{◌≤◌, [], ℕ, List, length, rules, subst}
use Rattle.bn_circuits.specs.declared.place.Place.{Place}
use Rattle.bn_table.specs.Rows.{Named}
use Rattle.bn_boards.specs.Flats.{Flat}
use Rattle.bn_network_assembly.specs.Assembled.{limits_of}
use Rattle.bn_reply.specs.declared.status.Status.{Status}
use Rattle.bn_reply_relations.specs.Windows.{BoardReplies}
use Rattle.bn_reply_boards.specs.Opened.{IsOpenedMachine, IsOpenedWindow}
use Rattle.bn_reply_boards.proofs.AskedLemmas.{large_replies, long_replies, machine_refused}
use Rattle.bn_reply_boards.proofs.opening.open_input.Goals as goal

abbrev none : Named → Flat → Status → List ℕ → List Place → Type 0
none t f status text told = ⊥

pub returns-in-Refused : goal.returns-in-Refused
returns-in-Refused c =
    let l = limits_of c.args.windows.now in
    let reply = c.in-Refused.reply in
    machine_refused (λ t. BoardReplies (none t) t.machine l) c.args.bytes.now c.args.word.now reply.status
    reply.text.items []
    (subst (IsOpenedMachine c.args.bytes.now c.args.word.now) c.in-Refused.is c.in_ok-reply.ensures)

pub returns-then-len-windows : goal.returns-then-len-windows
returns-then-len-windows c =
    let l = limits_of c.args.windows.now in
    let at = c.in-Made in
    let reply = c.in_ok-too_long-in-Made.field-0 in
    long_replies none c.args.bytes.now c.args.word.now l at.table at.translated at.symbols.items reply
    (subst (IsOpenedMachine c.args.bytes.now c.args.word.now) at.is c.in_ok-reply.ensures) (search rules) (search rules)
    c.in_ok-too_long-in-Made.ensures.status

pub open_window-requires-clause-within : goal.open_window-requires-clause-within
open_window-requires-clause-within c = (subst (IsOpenedMachine c.args.bytes.now c.args.word.now) c.in-Made.is
    c.in_ok-reply.ensures).within

pub open_window-requires-clause-word : goal.open_window-requires-clause-word
open_window-requires-clause-word c =
    rw c.as_slice.ensures.value (subst (IsOpenedMachine c.args.bytes.now c.args.word.now) c.in-Made.is
    c.in_ok-reply.ensures).is_word

pub returns-in-Refused-2 : goal.returns-in-Refused-2
returns-in-Refused-2 c =
    let l = limits_of c.args.windows.now in
    let at = c.in-Made in
    let asked = subst (IsOpenedMachine c.args.bytes.now c.args.word.now) at.is c.in_ok-reply.ensures in
    let symbols = c.as_slice.result.now in
    let fits : length at.symbols.items ≤ l.right = search rules in
    large_replies none c.args.bytes.now c.args.word.now l at.table at.translated at.symbols.items c.in-Refused-2.reply
    asked fits
    (subst (IsOpenedWindow at.table.machine l symbols at.translated) c.in-Refused-2.is
    (c.in_ok-reply-in-Made.ensures at.table.machine asked.translates))

pub returns-in-Made-2 : goal.returns-in-Made-2
returns-in-Made-2 c =
    let l = limits_of c.args.windows.now in
    let at = c.in-Made in
    let asked = subst (IsOpenedMachine c.args.bytes.now c.args.word.now) at.is c.in_ok-reply.ensures in
    let made = subst (IsOpenedWindow at.table.machine l at.symbols.items at.translated) c.in-Made-2.is
    (rw (← c.as_slice.ensures.value) (c.in_ok-reply-in-Made.ensures at.table.machine asked.translates)) in
    record {
      symbols = at.symbols.items;
      flat = made.0;
      given = record { reads = asked.reads; spelled = asked.spelled; small = c.requires };
      made = made.1;
    }
