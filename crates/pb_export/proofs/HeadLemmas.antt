-- A document whose members come after those of its head.
use Rattle.std.proofs.Common.{◌≡◌, ℕ, List, [], ◌∷◌, ◌++◌, drop, codes, Bool, true, false, Option, Some, None, refl}
use Rattle.std.proofs.Common.{sym, ap, ◌∙◌}
use Rattle.std.proofs.Common.{append_assoc, true≢false}
use denote.Ref.{Bor}
use Rattle.json.specs.Token.{Token}
use Rattle.json.specs.Token as token_of
use Rattle.json.specs.Text.{content, plain}
use Rattle.json.specs.Lex.{Lexeme, token, comma, colon, string_token, Place, fresh, after_comma, begins_colon}
use Rattle.json.specs.Lex.{between, in_string}
use Rattle.json.specs.Lex.{lex, punctuate, tokens}
use Rattle.json.specs.Print.{escape, escape_byte, quoted}
use Rattle.json.specs.Json as json
use Rattle.json.specs.Tree.{json_tokens, members_tokens}
use Rattle.json.proofs.Printed.Strings.{content-escape, lex-escape}
use Rattle.serde_json.specs.Data.{object, Members}
use Rattle.serde_json.specs.Written.{IsInOrder, outline, members_outline, blank, blank_members}
use Rattle.pb_export.specs.Heads.{member_line, old_line, head_text, with_old, with_head}
use Rattle.pb_export.specs.declared.heads.Head.{Head}

-- a text after a quote: its octets are passed over
quoted_lexed : (s r : List ℕ) → lex between (34 ∷ (escape s ++ 34 ∷ r)) ≡ token (token_of.string s) ∷ lex between r
unfolding lex
quoted_lexed s r = (λ i. token (string_token (content-escape s r i)) ∷ lex-escape s r i)

-- a text of six parts, bracketed from the left or from the right
regroup_six : (a b c d e f : List ℕ) → ((((a ++ b) ++ c) ++ d) ++ e) ++ f ≡ a ++ (b ++ (c ++ (d ++ (e ++ f))))
regroup_six a b c d e f = simp append_assoc

-- a member's text, regrouped
member_split : (key text r : List ℕ) → escape key ≡ key
    → member_line key text ++ r ≡ 32 ∷ 32 ∷ 34 ∷ (escape key ++ 34 ∷ 58 ∷ 32 ∷ 34 ∷ (escape text ++ 34 ∷ 44 ∷ 10 ∷ r))
member_split key text r plain_key =
    regroup_six (codes "  \"") key (codes "\": ") (quoted text) (codes ",\n") r
    ∙ ap (λ k. 32 ∷ 32 ∷ 34 ∷ (key ++ 34 ∷ 58 ∷ 32 ∷ 34 ∷ k)) (append_assoc (escape text) (34 ∷ []) (44 ∷ 10 ∷ r))
    ∙ ap (λ k. 32 ∷ 32 ∷ 34 ∷ (k ++ 34 ∷ 58 ∷ 32 ∷ 34 ∷ (escape text ++ 34 ∷ 44 ∷ 10 ∷ r))) (sym plain_key)

member_lexed : (key text r : List ℕ) → escape key ≡ key
    → lex between (member_line key text ++ r)
    ≡ token (token_of.string key) ∷ colon ∷ token (token_of.string text) ∷ comma ∷ lex between r
unfolding lex
member_lexed key text r plain_key =
    ap (lex between) (member_split key text r plain_key)
    ∙ quoted_lexed key (58 ∷ 32 ∷ 34 ∷ (escape text ++ 34 ∷ 44 ∷ 10 ∷ r))
    ∙ ap (λ ls. token (token_of.string key) ∷ colon ∷ ls) (quoted_lexed text (44 ∷ 10 ∷ r))

-- the first member, and one after a comma
first_tokens : (key text r : List ℕ) → escape key ≡ key
    → punctuate fresh (lex between (member_line key text ++ r))
    ≡ token_of.key key ∷ token_of.string text ∷ punctuate after_comma (lex between r)
unfolding punctuate
first_tokens key text r plain_key = ap (punctuate fresh) (member_lexed key text r plain_key)

next_tokens : (key text r : List ℕ) → escape key ≡ key
    → punctuate after_comma (lex between (member_line key text ++ r))
    ≡ token_of.key key ∷ token_of.string text ∷ punctuate after_comma (lex between r)
unfolding punctuate
next_tokens key text r plain_key = ap (punctuate after_comma) (member_lexed key text r plain_key)

-- a text or a fault begins alike after a bracket and after a comma
begins_alike : (o : Option (List ℕ)) (b : Bool) (ls : List Lexeme) → begins_colon ls ≡ b
    → punctuate after_comma (token (string_token o) ∷ ls) ≡ punctuate fresh (token (string_token o) ∷ ls)
unfolding punctuate
begins_alike None b ls h = refl
begins_alike (Some s) true ls h = rw h
begins_alike (Some s) false ls h = rw h

rest_alike : (r : List ℕ)
    → punctuate after_comma (lex between (codes "  \"" ++ r)) ≡ punctuate fresh (lex between (codes "  \"" ++ r))
unfolding lex
rest_alike r = begins_alike (content plain r) (begins_colon (lex in_string r)) (lex in_string r) refl

-- the tokens of the member for the plan file before the change, if there is one
old_tokens : Option (Bor (List ℕ)) → List Token → List Token
old_tokens None ts = ts
old_tokens (Some path) ts = token_of.key (codes "old_plan") ∷ token_of.string path.now ∷ ts

old_told : (old : Option (Bor (List ℕ))) (r : List ℕ)
    → punctuate after_comma (lex between (old_line old ++ r)) ≡ old_tokens old (punctuate after_comma (lex between r))
unfolding escape_byte old_tokens
old_told None r = refl
old_told (Some path) r = next_tokens (codes "old_plan") path.now r refl

-- the text of a document, regrouped
head_split : (head : Head) (r : List ℕ)
    → head_text head ++ r
    ≡ 123 ∷ 10 ∷ (member_line (codes "command") head.command.now ++ (member_line (codes "version") head.version.now
    ++ (member_line (codes "plan") head.plan.now ++ (old_line head.old_plan ++ r))))
head_split head r =
    regroup_six (codes "{\n") (member_line (codes "command") head.command.now)
    (member_line (codes "version") head.version.now) (member_line (codes "plan") head.plan.now)
    (old_line head.old_plan) r

-- its tokens: those of the head, and then those of the rest
head_told : (head : Head) (r : List ℕ)
    → tokens (head_text head ++ (codes "  \"" ++ r))
    ≡ token_of.begin_object ∷ token_of.key (codes "command") ∷ token_of.string head.command.now
    ∷ token_of.key (codes "version") ∷ token_of.string head.version.now
    ∷ token_of.key (codes "plan") ∷ token_of.string head.plan.now
    ∷ old_tokens head.old_plan (punctuate fresh (lex between (codes "  \"" ++ r)))
unfolding lex punctuate escape_byte
head_told head r =
    let rest = codes "  \"" ++ r in
    let c = member_line (codes "command") head.command.now in
    let v = member_line (codes "version") head.version.now in
    let p = member_line (codes "plan") head.plan.now in
    let o = old_line head.old_plan in
    ap tokens (head_split head rest)
    ∙ ap (λ ts. token_of.begin_object ∷ ts) (first_tokens (codes "command") head.command.now (v ++ (p ++ (o ++ rest)))
    refl)
    ∙ ap (λ ts. token_of.begin_object ∷ token_of.key (codes "command") ∷ token_of.string head.command.now ∷ ts)
    (next_tokens (codes "version") head.version.now (p ++ (o ++ rest)) refl
    ∙ ap (λ ts. token_of.key (codes "version") ∷ token_of.string head.version.now ∷ ts)
    (next_tokens (codes "plan") head.plan.now (o ++ rest) refl
    ∙ ap (λ ts. token_of.key (codes "plan") ∷ token_of.string head.plan.now ∷ ts)
    (old_told head.old_plan rest ∙ ap (old_tokens head.old_plan) (rest_alike r))))

-- the JSON of the head's members before others
with_old_json : Option (Bor (List ℕ)) → json.Members → json.Members
with_old_json None ms = ms
with_old_json (Some path) ms = json.member (codes "old_plan") (json.string path.now) ms

old_json_tokens : (old : Option (Bor (List ℕ))) (ms : json.Members)
    → old_tokens old (members_tokens ms) ≡ members_tokens (with_old_json old ms)
unfolding old_tokens with_old_json
old_json_tokens None ms = refl
old_json_tokens (Some path) ms = refl

old_json_outline : (old : Option (Bor (List ℕ))) (ms : json.Members) (those : Members)
    → blank_members ms ≡ members_outline those
    → blank_members (with_old_json old ms) ≡ members_outline (with_old old those)
unfolding with_old_json
old_json_outline None ms those h = h
old_json_outline (Some path) ms those h = ap (json.member (codes "old_plan") (json.string path.now)) h

-- the members of a JSON object
inside : json.Json → json.Members
inside json.null = json.no_members
inside (json.boolean b) = json.no_members
inside (json.number s) = json.no_members
inside (json.string s) = json.no_members
inside (json.array js) = json.no_members
inside (json.object ms) = ms

is_object : json.Json → Bool
is_object json.null = false
is_object (json.boolean b) = false
is_object (json.number s) = false
is_object (json.string s) = false
is_object (json.array js) = false
is_object (json.object ms) = true

of_inside : (j : json.Json) → is_object (blank j) ≡ true → j ≡ json.object (inside j)
unfolding inside is_object
of_inside json.null h = absurd (true≢false (sym h))
of_inside (json.boolean b) h = absurd (true≢false (sym h))
of_inside (json.number s) h = absurd (true≢false (sym h))
of_inside (json.string s) h = absurd (true≢false (sym h))
of_inside (json.array js) h = absurd (true≢false (sym h))
of_inside (json.object ms) h = refl

-- the document has the members of the head, and then those of the report, each once and in order
pub headed : (head : Head) (members : Members) (r : List ℕ)
    → IsInOrder (codes "{\n" ++ (codes "  \"" ++ r)) (object members)
    → IsInOrder (head_text head ++ (codes "  \"" ++ r)) (object (with_head head members))
unfolding lex punctuate inside is_object
headed head members r (j, told, seen) =
    let rest = punctuate fresh (lex between (codes "  \"" ++ r)) in
    let whole : j ≡ json.object (inside j) = of_inside j (ap is_object seen) in
    let inner : rest ≡ members_tokens (inside j) = ap (drop 1) (told ∙ ap json_tokens whole) in
    let outlined : blank_members (inside j) ≡ members_outline members = ap inside (sym (ap blank whole) ∙ seen) in (
      json.object (json.member (codes "command") (json.string head.command.now)
          (json.member (codes "version") (json.string head.version.now)
          (json.member (codes "plan") (json.string head.plan.now) (with_old_json head.old_plan (inside j))))),
      head_told head r
          ∙ ap (λ ts. token_of.begin_object ∷ token_of.key (codes "command") ∷ token_of.string head.command.now
          ∷ token_of.key (codes "version") ∷ token_of.string head.version.now
          ∷ token_of.key (codes "plan") ∷ token_of.string head.plan.now ∷ ts)
          (ap (old_tokens head.old_plan) inner ∙ old_json_tokens head.old_plan (inside j)),
      ap (λ ms. json.object (json.member (codes "command") (json.string head.command.now)
          (json.member (codes "version") (json.string head.version.now)
          (json.member (codes "plan") (json.string head.plan.now) ms))))
          (old_json_outline head.old_plan (inside j) members outlined),
    )
