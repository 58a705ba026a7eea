-- The forms of names and symbols in this project's tables.
use Rattle.std.specs.Prelude.{ℕ, Bool, not, ◌&&◌, ◌||◌, ◌==◌, nat_le, List, length}
use Rattle.std.specs.Char.{is_ascii_alphanumeric}
use Rattle.std.specs.List.{list_all}

-- a byte of a state's name: an ASCII letter or digit, an apostrophe, a full stop or a hyphen
abbrev pub is_name_byte : ℕ → Bool
is_name_byte b = is_ascii_alphanumeric b || (b == 39) || (b == 46) || (b == 45)

-- a state's name: 1 to 32 of the bytes that a name may have
abbrev pub is_state_name : List ℕ → Bool
is_state_name name = nat_le 1 (length name) && nat_le (length name) 32 && list_all is_name_byte name

-- a byte of a symbol: printable ASCII but for the space, the slash, the comma and the double quote
abbrev pub is_symbol_byte : ℕ → Bool
is_symbol_byte b = nat_le 33 b && nat_le b 126 && not (b == 47) && not (b == 44) && not (b == 34)

-- a symbol of one byte
abbrev pub is_letter : List ℕ → Bool
is_letter symbol = (length symbol == 1) && list_all is_symbol_byte symbol

-- a symbol of 1 to 8 bytes
abbrev pub is_symbol : List ℕ → Bool
is_symbol symbol = nat_le 1 (length symbol) && nat_le (length symbol) 8 && list_all is_symbol_byte symbol
