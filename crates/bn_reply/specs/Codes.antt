-- The exit codes (this project's own profile).
use Rattle.std.specs.Prelude.{ℕ}
use Rattle.bn_reply.specs.declared.status.Status.{Status}
use Rattle.bn_reply.specs.declared.status.Status.TheVariants.{Done, Usage, Text, Machine, Word, Size, ReadFault}
use Rattle.bn_reply.specs.declared.status.Status.TheVariants.{WriteFault, NoMemory, Stuck, Window, Inside}

abbrev pub code_of : Status → ℕ
code_of Done = 0
code_of Usage = 2
code_of Text = 3
code_of Machine = 4
code_of Word = 5
code_of Size = 6
code_of ReadFault = 7
code_of WriteFault = 8
code_of NoMemory = 9
code_of Stuck = 10
code_of Window = 11
code_of Inside = 12

-- the status of an answer: neither a failure of the outside nor out of memory
abbrev pub IsAnswer : Status → Type 0
IsAnswer ReadFault = ⊥
IsAnswer WriteFault = ⊥
IsAnswer NoMemory = ⊥
IsAnswer _ = Unit {0}

-- the status of a command's own answer: besides, the arguments have a form
abbrev pub IsReplyStatus : Status → Type 0
IsReplyStatus Usage = ⊥
IsReplyStatus status = IsAnswer status
