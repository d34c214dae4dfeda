-- The recorded calls of a journal: how they are written, one after another, and how they are read. Numbers are big-endian.
use Rattle.std.specs.Prelude.{ℕ, zero, suc, ◌+◌, ◌-◌, ◌<◌, ◌^◌, ◌≤◌, ◌≡◌, Bool, true, ◌&&◌, ◌||◌, cond, List, [], ◌∷◌}
use Rattle.std.specs.Prelude.{◌++◌, leb, ltb, eqb, length, get_or, take, drop}
use Rattle.block.specs.Below.{AreBytes}
use Rattle.block.specs.BigEndian.{number_of, bytes_of}
use Rattle.block.specs.Words.{word_at}
use Rattle.cipher_mode.specs.declared.Direction.{Direction}
use Rattle.cipher_mode.specs.declared.Direction.TheVariants.{Encrypt, Decrypt}

-- a call as it was recorded: what was asked, and what was answered
pub record Entry : Type 0 where
  pub direction : Direction
  pub mode : ℕ
  -- the key's number
  pub key : ℕ
  pub label : List ℕ
  pub «data» : List ℕ
  pub iv : List ℕ
  pub room : ℕ
  -- the answer's number and its output
  pub number : ℕ
  pub output : List ℕ

-- bytes, so many that four bytes can tell their number
pub record ProperPart (p : List ℕ) : Type 0 where
  pub size : length p < 2 ^ 32
  pub bytes : AreBytes p

-- what can be written so that it reads back: numbers that their fields have room for, and bytes
pub record Proper (e : Entry) : Type 0 where
  pub mode : e.mode < 2 ^ 8
  pub key : e.key < 2 ^ 16
  pub label : ProperPart e.label
  pub «data» : ProperPart e.«data»
  pub iv : ProperPart e.iv
  pub room : e.room < 2 ^ 32
  pub number : e.number < 2 ^ 8
  pub output : ProperPart e.output

abbrev pub direction_byte : Direction → ℕ
direction_byte Encrypt = 0
direction_byte Decrypt = 1

-- a part after its length
unfoldable pub part : List ℕ → List ℕ
part p = bytes_of 4 (length p) ++ p

-- mark, direction, mode and key number
unfoldable pub head : Entry → List ℕ
head e = 0x54 ∷ 0x52 ∷ direction_byte e.direction ∷ e.mode ∷ bytes_of 2 e.key

-- room and number
unfoldable pub middle : Entry → List ℕ
middle e = bytes_of 4 e.room ++ (e.number ∷ [])

unfoldable pub written : Entry → List ℕ
written e = head e ++ (part e.label ++ (part e.«data» ++ (part e.iv ++ (middle e ++ part e.output))))

unfoldable pub stored : List Entry → List ℕ
stored [] = []
stored (e ∷ es) = written e ++ stored es

-- whether a part stands whole at the front of b; its bytes; and what is behind it
unfoldable pub starts_part : List ℕ → Bool
starts_part b = leb 4 (length b) && leb (word_at b 0) (length b - 4)

unfoldable pub part_at : List ℕ → List ℕ
part_at b = take (word_at b 0) (drop 4 b)

unfoldable pub behind : List ℕ → List ℕ
behind b = drop (4 + word_at b 0) b

-- a record b from its label on, from its data on, and so forth
abbrev pub from_label : List ℕ → List ℕ
from_label b = drop 6 b

abbrev pub from_data : List ℕ → List ℕ
from_data b = behind (from_label b)

abbrev pub from_iv : List ℕ → List ℕ
from_iv b = behind (from_data b)

abbrev pub from_room : List ℕ → List ℕ
from_room b = behind (from_iv b)

abbrev pub from_output : List ℕ → List ℕ
from_output b = drop 5 (from_room b)

-- what is behind it
abbrev pub after_record : List ℕ → List ℕ
after_record b = behind (from_output b)

-- whether b starts with the mark, and a direction stands where it must
unfoldable pub marked : List ℕ → Bool
marked b = eqb (get_or b 0 0) 0x54 && (eqb (get_or b 1 0) 0x52 && leb (get_or b 2 0) 1)

-- whether a record stands whole at the front of b, by the lengths that it states
unfoldable pub starts_record : List ℕ → Bool
starts_record b =
    leb 6 (length b)
    && (marked b
    && (starts_part (from_label b)
    && (starts_part (from_data b)
    && (starts_part (from_iv b)
    && (leb 5 (length (from_room b))
    && starts_part (from_output b))))))

-- what such a record tells: its parts stand whole one behind the other
pub record Stands (b : List ℕ) : Type 0 where
  pub long : 6 ≤ length b
  pub mark : marked b ≡ true
  pub label : starts_part (from_label b) ≡ true
  pub «data» : starts_part (from_data b) ≡ true
  pub iv : starts_part (from_iv b) ≡ true
  pub middle : 5 ≤ length (from_room b)
  pub output : starts_part (from_output b) ≡ true

-- how many bytes it has; 0 where there is none
unfoldable pub size_at : List ℕ → ℕ
size_at b = cond (starts_record b) (length b - length (after_record b)) 0

abbrev pub direction_of : ℕ → Direction
direction_of zero = Encrypt
direction_of (suc n) = Decrypt

-- the record at the front of b
unfoldable pub front : List ℕ → Entry
front b =
    record {
      direction = direction_of (get_or b 2 0);
      mode = get_or b 3 0;
      key = number_of (get_or b 4 0 ∷ get_or b 5 0 ∷ []);
      label = part_at (from_label b);
      «data» = part_at (from_data b);
      iv = part_at (from_iv b);
      room = word_at (from_room b) 0;
      number = get_or (from_room b) 4 0;
      output = part_at (from_output b);
    }

-- label, data and IV have at most 16,384 bytes, and an output 16,400; the room may be any
abbrev pub part_limit : ℕ
part_limit = 16384

abbrev pub output_limit : ℕ
output_limit = 16400

-- whether so many bytes of label, data, IV and output are too many
unfoldable pub past_limit : ℕ → ℕ → ℕ → ℕ → Bool
past_limit label d iv output =
    ltb part_limit label
    || (ltb part_limit d
    || (ltb part_limit iv
    || ltb output_limit output))

abbrev pub too_long : Entry → Bool
too_long e = past_limit (length e.label) (length e.«data») (length e.iv) (length e.output)
