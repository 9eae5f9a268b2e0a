-- The lines of a plan file, and the headers of its tables.
use Rattle.std.specs.Prelude.{ℕ, ◌+◌, codes, Bool, false, ◌==◌, ◌||◌, ◌&&◌, not, List, [], ◌∷◌, ◌++◌, slice_get, Option, Some, None, if◌then◌else◌}
use Rattle.std.specs.List.{slice_split, list_any}
use Rattle.pb_frame.specs.Admission.{same}

-- the lines of a text: a line feed ends each but the last
abbrev pub lines_of : List ℕ → List (List ℕ)
lines_of text = slice_split (λ b. b == 10) text

-- the lines of the rest of a text
abbrev pub lines_left : Option (List ℕ) → List (List ℕ)
lines_left None = []
lines_left (Some text) = lines_of text

-- a space, a tab, the carriage return of a line's end, or an octet of the byte order mark that may begin a file
abbrev pub is_blank : ℕ → Bool
is_blank b = list_any (λ x. b == x) (32 ∷ 9 ∷ 13 ∷ 239 ∷ 187 ∷ 191 ∷ [])

-- a line without its blanks and its comment
abbrev pub squeezed : List ℕ → List ℕ
squeezed [] = []
squeezed (b ∷ line) = if b == 35 then [] else if is_blank b then squeezed line else b ∷ squeezed line

-- the line is `[word]` or `[[word]]`, apart from blanks and a comment
abbrev pub is_header : List ℕ → List ℕ → Bool
is_header word line =
    same (squeezed line) (codes "[" ++ word ++ codes "]") || same (squeezed line) (codes "[[" ++ word ++ codes "]]")

-- the numbers of the headers of a word, among lines of which the first has the number n
abbrev pub headers_from : ℕ → List ℕ → List (List ℕ) → List ℕ
headers_from n word [] = []
headers_from n word (line ∷ lines) = (if is_header word line then n ∷ [] else []) ++ headers_from (n + 1) word lines

-- the number, from 1, of the line that is a header of the word after so many earlier ones
abbrev pub header_line : List ℕ → ℕ → List (List ℕ) → Option ℕ
header_line word others lines = slice_get (headers_from 1 word lines) others

-- a quotation mark
abbrev pub is_mark : ℕ → Bool
is_mark b = b == 34 || b == 39

-- three quotation marks of one kind in a row, with which a text of several lines begins
abbrev pub begins_text : List ℕ → Bool
begins_text (a ∷ b ∷ c ∷ rest) = is_mark a && (a == b && b == c)
begins_text rest = false

abbrev pub has_text : List ℕ → Bool
has_text [] = false
has_text (b ∷ rest) = begins_text (b ∷ rest) || has_text rest

-- a quotation mark occurs before the comment
abbrev pub quotes : List ℕ → Bool
quotes [] = false
quotes (b ∷ line) = if b == 35 then false else is_mark b || quotes line

-- the line is a header with a quotation mark, or begins with one and has an equals sign, which means that a key may be
-- quoted
abbrev pub is_quoted : List ℕ → Bool
is_quoted [] = false
is_quoted (b ∷ line) =
    if is_blank b then is_quoted line else if b == 91 then quotes line else is_mark b && list_any (λ x. x == 61) line

-- headers can be recognized line by line: no text spans several lines, and no key or header is quoted
abbrev pub is_plain : List ℕ → Bool
is_plain file = not (has_text file) && not (list_any is_quoted (lines_of file))

-- the line of the header of a word after so many earlier ones, and none if headers can't be recognized line by line
abbrev pub table_line : List ℕ → List ℕ → ℕ → Option ℕ
table_line file word others = if is_plain file then header_line word others (lines_of file) else None
