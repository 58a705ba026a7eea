-- How a call from C ends (this project's own definition).
use Rattle.std.specs.Prelude.{◌≡◌, ℕ, ◌≤◌, ◌<◌, List, ◌++◌, length, take, drop, None}
use Rattle.bn_reply.specs.Codes.{code_of}
use Rattle.bn_reply.specs.declared.reply.Reply.{Reply}
use Rattle.bn_reply.specs.declared.status.Status.TheVariants.{WriteFault, NoMemory}
use Rattle.bn_top.specs.Headlines.{IsReplyTo}

-- The code, the reported length, and the caller's output before and after. Either there is a reply, for which the
-- headlines hold, and the output has room for its text: the text is at the front, and the rest of the output is
-- unchanged. Or there is a reply, and the output has too little room: it is filled with a prefix of the text. Or memory
-- ran out.
pub data Ends (words : List (List ℕ)) (input before after : List ℕ) (code taken : ℕ) : Type 0 where
  whole : (reply : Reply) → IsReplyTo words input reply None None → length reply.text.items ≤ length before
      → code ≡ code_of reply.status → taken ≡ length reply.text.items
      → after ≡ reply.text.items ++ drop (length reply.text.items) before → Ends words input before after code taken
  full : (reply : Reply) → IsReplyTo words input reply None None → length before < length reply.text.items
      → code ≡ code_of WriteFault → taken ≡ length reply.text.items
      → after ≡ take (length before) reply.text.items → Ends words input before after code taken
  wanting : code ≡ code_of NoMemory → taken ≡ 0 → after ≡ before → Ends words input before after code taken
