-- Texts worked out: the rows that they are, and what reading them answers. Assumes nothing.
use mathlib.Core.Path.{◌≡◌, refl, ap, ap₂, ◌∙◌}
use mathlib.Core.Bool.{false}
use mathlib.Core.List.{List, [], ◌∷◌, ◌++◌}
use Prim.Native.Nat.{ℕ, ◌≤◌}
use native.Mathlib.Omega.{arith}
use lib.ListN.{length}
use Rattle.words.specs.Bytes.{bytes_of}
use Rattle.refusals.specs.Answers.{refused_at, accepted_with}
use Rattle.cells.specs.Cells.{starts, none, ending, ending_size, stops, plain_size, quoted_size, finish, closed, cell_at, undouble, content}
use Rattle.kinds.specs.Kinds.{kinds, kind_of, known}
use Rattle.kept.specs.Keeps.{All, field}
use Rattle.digits.specs.Numbers.{digit, all_digits, digits, value_from, size_in, has_minus, number_of}
use Rattle.rows.specs.Text.{split_after, split_from, text_row, rows_from, rows_of}
use Rattle.rows.specs.Columns.{connector_widths, widths, below_of, above_of, said_in, packed, numbers_fit, numbers_bytes, block_shape, output_shape, says, shape_by, shape_of, numbers_in, columns_of, label_fits, label_field, is_shaped, is_fit, row_faults, row_number, fields_by, fields_of, is_block}
use Rattle.rows.specs.Reading.{blocks_in, circuit_of, read_answer}
use Rattle.rows.specs.Again.{Sound}
use Rattle.rows.proofs.Text.{row_of}
use Rattle.rows.proofs.Outcome.{answer-sound, room-enough, room-short}

-- "empty text has no rows"
no_rows : rows_of [] ≡ []
unfolding rows_of rows_from
no_rows = refl

-- 1,2 with no line end: "The last record in the file may or may not have an ending line break"
last_row : rows_of (49 ∷ 44 ∷ 50 ∷ []) ≡ row_of ((49 ∷ []) ∷ (50 ∷ []) ∷ []) ∷ []
unfolding rows_of rows_from text_row split_from split_after cell_at starts none ending ending_size stops plain_size finish content
last_row = refl

-- 1 and 2: "a lone LF ends a row too", and CRLF at the end has no row behind it
two-rows : rows_of (49 ∷ 10 ∷ 50 ∷ 13 ∷ 10 ∷ []) ≡ row_of ((49 ∷ []) ∷ []) ∷ row_of ((50 ∷ []) ∷ []) ∷ []
unfolding rows_of rows_from text_row split_from split_after cell_at starts none ending ending_size stops plain_size finish content
two-rows = refl

-- a quoted cell with a comma, a quote and a line end: one row
one-row : rows_of (34 ∷ 44 ∷ 34 ∷ 34 ∷ 10 ∷ 34 ∷ 10 ∷ []) ≡ row_of ((44 ∷ 34 ∷ 10 ∷ []) ∷ []) ∷ []
unfolding rows_of rows_from text_row split_from split_after cell_at starts none ending ending_size stops plain_size quoted_size finish closed content undouble
one-row = refl

-- ---- read

-- 48,1,1,1,1: Q1 from I1
q1 : List ℕ
q1 = 52 ∷ 56 ∷ 44 ∷ 49 ∷ 44 ∷ 49 ∷ 44 ∷ 49 ∷ 44 ∷ 49 ∷ []

q1-row : rows_of q1 ≡ row_of ((52 ∷ 56 ∷ []) ∷ (49 ∷ []) ∷ (49 ∷ []) ∷ (49 ∷ []) ∷ (49 ∷ []) ∷ []) ∷ []
unfolding q1 rows_of rows_from text_row split_from split_after cell_at starts none ending ending_size stops plain_size finish content
q1-row = refl

-- 17 bytes: header, row and end
q1-bytes : circuit_of (rows_of q1) ≡ 1 ∷ 0 ∷ 3 ∷ 1 ∷ 0 ∷ 0 ∷ 48 ∷ 0 ∷ 5 ∷ 1 ∷ 1 ∷ 1 ∷ 0 ∷ 1 ∷ 127 ∷ 0 ∷ 0 ∷ []
unfolding circuit_of blocks_in is_block fields_of fields_by shape_of shape_by says said_in below_of above_of number_of has_minus size_in digits all_digits digit value_from output_shape widths connector_widths numbers_bytes packed field bytes_of
q1-bytes = rw q1-row

q1-sound : All Sound (rows_of q1)
unfolding row_number row_faults is_shaped is_fit columns_of numbers_in numbers_fit shape_of shape_by says said_in below_of above_of number_of has_minus size_in digits all_digits digit value_from output_shape widths connector_widths
q1-sound = rw q1-row (refl, tt)

q1-blocks : blocks_in (rows_of q1) ≡ 0
unfolding blocks_in is_block shape_of shape_by says said_in below_of above_of number_of has_minus size_in digits all_digits digit value_from output_shape
q1-blocks = rw q1-row

q1-few : blocks_in (rows_of q1) ≤ 400
q1-few = rw q1-blocks (omega arith)

q1-long : length (circuit_of (rows_of q1)) ≡ 17
q1-long = ap length q1-bytes

q1-read : read_answer q1 17 ≡ accepted_with 17 1
q1-read =
    answer-sound q1 17 q1-sound
    ∙ room-enough (rows_of q1) 17 q1-few (omega (arith, q1-long))
    ∙ ap₂ accepted_with q1-long (ap length q1-row)

-- "33 no room in the lent circuit slice (exactly when the fields need more bytes than lent)"
q1-no-room : read_answer q1 16 ≡ refused_at 33 0
q1-no-room = answer-sound q1 16 q1-sound ∙ room-short (rows_of q1) 16 q1-few (omega (arith, q1-long))

-- x," : the quote that is not closed is told, and not the tag
open-quote : rows_of (120 ∷ 44 ∷ 34 ∷ []) ≡ record { cells = (120 ∷ []) ∷ [] ∷ []; whole = false } ∷ []
unfolding rows_of rows_from text_row split_from split_after cell_at starts none ending ending_size stops plain_size quoted_size finish closed content undouble
open-quote = refl

open_told : row_number (record { cells = (120 ∷ []) ∷ [] ∷ []; whole = false }) ≡ 30
unfolding row_number row_faults
open_told = refl

-- 16,8,0,0,0,1,"Door 3, north": a NOT whose input is unused, with its label
north : List ℕ
north = 68 ∷ 111 ∷ 111 ∷ 114 ∷ 32 ∷ 51 ∷ 44 ∷ 32 ∷ 110 ∷ 111 ∷ 114 ∷ 116 ∷ 104 ∷ []

door : List ℕ
door = 49 ∷ 54 ∷ 44 ∷ 56 ∷ 44 ∷ 48 ∷ 44 ∷ 48 ∷ 44 ∷ 48 ∷ 44 ∷ 49 ∷ 44 ∷ 34 ∷ 68 ∷ 111 ∷ 111 ∷ 114 ∷ 32 ∷ 51 ∷ 44 ∷ 32 ∷ 110 ∷ 111 ∷ 114 ∷ 116 ∷ 104 ∷ 34 ∷ 10 ∷ []

door-row : rows_of door ≡ row_of ((49 ∷ 54 ∷ []) ∷ (56 ∷ []) ∷ (48 ∷ []) ∷ (48 ∷ []) ∷ (48 ∷ []) ∷ (49 ∷ []) ∷ north ∷ []) ∷ []
unfolding door north rows_of rows_from text_row split_from split_after cell_at starts none ending ending_size stops plain_size quoted_size finish closed content undouble
door-row = refl

door-bytes : circuit_of (rows_of door) ≡ 1 ∷ 0 ∷ 3 ∷ 1 ∷ 0 ∷ 1 ∷ 16 ∷ 0 ∷ 5 ∷ 8 ∷ 0 ∷ 0 ∷ 0 ∷ 0 ∷ 32 ∷ 0 ∷ 13 ∷ (north ++ (127 ∷ 0 ∷ 0 ∷ []))
unfolding north circuit_of blocks_in is_block fields_of fields_by shape_of shape_by says said_in below_of above_of number_of has_minus size_in digits all_digits digit value_from known kinds kind_of block_shape widths connector_widths numbers_bytes packed label_field numbers_in field bytes_of
door-bytes = rw door-row

door-sound : All Sound (rows_of door)
unfolding north row_number row_faults is_shaped is_fit columns_of numbers_in numbers_fit shape_of shape_by says said_in below_of above_of number_of has_minus size_in digits all_digits digit value_from known kinds kind_of block_shape widths connector_widths label_fits
door-sound = rw door-row (refl, tt)
