-- Values with commas between them, and words as strings.
use Rattle.std.proofs.Common.{◌≡◌, ℕ, zero, suc, ◌+◌, ◌/◌, ◌%◌, ◌<◌, ◌==◌, Bool, true, false, cond, List, [], ◌∷◌, ◌++◌, length, take}
use Rattle.std.proofs.Common.{get_or, map, codes, decimal, ℤ, pos, negsuc, refl, sym, ap, ◌∙◌, arith}
use Rattle.std.specs.Fmt.{signed_decimal, digit_glyph, digits, digits_onto}
use Rattle.std.specs.List.{flat_map, join_with_byte}
use Rattle.std.proofs.lemmas.List.{append_assoc, length-append, length-map, length-take-le, map_more}
use Rattle.std.proofs.lemmas.List.Concat.{flat_map-append}
use Rattle.rows.specs.Text.{words_text}
use Rattle.rows.specs.declared.value.Value.TheVariants.{Int, Octets}
use Rattle.queries.specs.declared.field.Field.{Field}
use Rattle.queries.specs.declared.field.Field.TheVariants.{Stored, Number, Absent}
use Rattle.queries.specs.Report.{field_text}
use Rattle.reports.specs.Json.{field_json, line_json, answer_json, json_text}
use Rattle.reports.specs.Inner.Pieces.{IsFreeOf, comma_before, byte_json}
use Rattle.reports.proofs.Cutting.{field-free}

-- one value more, behind a comma unless it is the first
join-push : (values : List (List ℕ)) (value : List ℕ)
    → join_with_byte 44 (values ++ value ∷ []) ≡ join_with_byte 44 values ++ (comma_before (length values) ++ value)
join-push [] value = refl
join-push (first ∷ []) value = refl
join-push (first ∷ next ∷ values) value =
    ap (λ (rest : List ℕ). first ++ (44 ∷ rest)) (join-push (next ∷ values) value)
    ∙ sym (append_assoc first (44 ∷ join_with_byte 44 (next ∷ values)) (44 ∷ value))

pub join-written : {A : Type 0} (f : A → List ℕ) (xs : List A) (i : ℕ) (d : A) (before text comma after : List ℕ) → i < length xs
    → text ≡ before ++ join_with_byte 44 (map f (take i xs)) → comma ≡ text ++ comma_before i → after ≡ comma ++ f (get_or xs i d)
    → after ≡ before ++ join_with_byte 44 (map f (take (i + 1) xs))
join-written f xs i d before text comma after lt is parts adds =
    let value = f (get_or xs i d) in
    let values = map f (take i xs) in
    let long : length values ≡ i = length-map (take i xs) f ∙ length-take-le i xs (omega (arith, lt)) in
    let more : join_with_byte 44 (map f (take (i + 1) xs)) ≡ join_with_byte 44 values ++ (comma_before i ++ value) =
    ap (join_with_byte 44) (map_more f xs i d lt)
    ∙ join-push values value
    ∙ ap (λ (n : ℕ). join_with_byte 44 values ++ (comma_before n ++ value)) long in
    adds
    ∙ ap (λ (front : List ℕ). front ++ value) (parts ∙ ap (λ (front : List ℕ). front ++ comma_before i) is)
    ∙ append_assoc (before ++ join_with_byte 44 values) (comma_before i) value
    ∙ append_assoc before (join_with_byte 44 values) (comma_before i ++ value)
    ∙ ap (λ (all : List ℕ). before ++ all) (sym more)

-- ---- no field is empty

onto-some : (fuel n : ℕ) (behind : List ℕ) → 0 < length behind → 0 < length (digits_onto fuel 10 false n behind)
onto-some zero n behind some = some
onto-some (suc fuel) n behind some =
    by (n / 10 == 0) (onto-some fuel (n / 10) (digit_glyph false (n % 10) ∷ behind) (omega arith))
  where
    by : (last : Bool) → 0 < length (digits_onto fuel 10 false (n / 10) (digit_glyph false (n % 10) ∷ behind))
        → 0 < length
        (cond last (digit_glyph false (n % 10) ∷ behind) (digits_onto fuel 10 false (n / 10) (digit_glyph false (n % 10) ∷ behind)))
    by true more = omega arith
    by false more = more

decimal-some : (n : ℕ) → 0 < length (decimal n)
unfolding digits
decimal-some n = by (n / 10 == 0) (onto-some 63 (n / 10) (digit_glyph false (n % 10) ∷ []) (omega arith))
  where
    by : (last : Bool) → 0 < length (digits_onto 63 10 false (n / 10) (digit_glyph false (n % 10) ∷ []))
        → 0 < length (cond last (digit_glyph false (n % 10) ∷ []) (digits_onto 63 10 false (n / 10) (digit_glyph false (n % 10) ∷ [])))
    by true more = omega arith
    by false more = more

signed-some : (z : ℤ) → 0 < length (signed_decimal z)
signed-some (pos n) = decimal-some n
signed-some (negsuc n) = omega arith

field-some : (field : Field) → 0 < length (field_text field)
field-some (Stored (Int z)) = signed-some z
field-some (Stored (Octets bytes)) = omega arith
field-some (Number z) = signed-some z
field-some Absent = omega arith

words-some : (field : Field) (fields : List Field) → 0 < length (words_text (map field_text (field ∷ fields)))
words-some field [] = field-some field
words-some field (next ∷ fields) =
    let some = field-some field in
    let long = length-append (field_text field) (32 ∷ words_text (map field_text (next ∷ fields))) in
    omega arith

-- ---- the words of a line

word-kept : (word : List ℕ) → IsFreeOf 32 word → flat_map byte_json word ≡ word
word-kept [] free = refl
word-kept (byte ∷ word) free =
    ap (λ (space : Bool). cond space (codes "\",\"") (byte ∷ []) ++ flat_map byte_json word) free.0
    ∙ ap (λ (rest : List ℕ). byte ∷ rest) (word-kept word free.1)

field-kept : (field : Field) → flat_map byte_json (field_text field) ≡ field_text field
field-kept field = word-kept (field_text field) (field-free 32 field (omega arith))

words-json : (field : Field) (fields : List Field)
    → 34 ∷ (flat_map byte_json (words_text (map field_text (field ∷ fields))) ++ 34 ∷ [])
    ≡ join_with_byte 44 (map field_json (field ∷ fields))
words-json field [] = ap (λ (word : List ℕ). 34 ∷ (word ++ 34 ∷ [])) (field-kept field)
words-json field (next ∷ fields) =
    let rest = words_text (map field_text (next ∷ fields)) in
    let strings = flat_map byte_json rest in
    ap (λ (words : List ℕ). 34 ∷ (words ++ 34 ∷ []))
    (flat_map-append byte_json (field_text field) (32 ∷ rest)
    ∙ ap (λ (word : List ℕ). word ++ (34 ∷ 44 ∷ 34 ∷ strings)) (field-kept field))
    ∙ ap (λ (words : List ℕ). 34 ∷ words) (append_assoc (field_text field) (34 ∷ 44 ∷ 34 ∷ strings) (34 ∷ []))
    ∙ ap (λ (others : List ℕ). 34 ∷ (field_text field ++ (34 ∷ 44 ∷ others))) (words-json next fields)
    ∙ ap (λ (words : List ℕ). 34 ∷ words)
    (sym (append_assoc (field_text field) (34 ∷ []) (44 ∷ join_with_byte 44 (map field_json (next ∷ fields)))))

-- a line without bytes has no words
pub empty-written : (fields : List Field) (line before after : List ℕ) → line ≡ words_text (map field_text fields) → length line ≡ 0
    → after ≡ before ++ codes "[]" → after ≡ before ++ line_json fields
empty-written [] line before after is none adds = adds
empty-written (field ∷ fields) line before after is none adds =
    let some = words-some field fields in
    let same = ap length is in
    absurd (omega arith)

pub line-written : (fields : List Field) (line before opened words after : List ℕ) → line ≡ words_text (map field_text fields)
    → 0 < length line → opened ≡ before ++ codes "[\"" → words ≡ opened ++ flat_map byte_json line → after ≡ words ++ codes "\"]"
    → after ≡ before ++ line_json fields
line-written [] line before opened words after is some opens adds closes =
    let same = ap length is in
    absurd (omega arith)
line-written (field ∷ fields) line before opened words after is some opens adds closes =
    let strings = flat_map byte_json (words_text (map field_text (field ∷ fields))) in
    closes
    ∙ ap (λ (text : List ℕ). text ++ codes "\"]")
    (adds
    ∙ ap (λ (text : List ℕ). text ++ flat_map byte_json line) opens
    ∙ ap (λ (bytes : List ℕ). before ++ codes "[\"" ++ flat_map byte_json bytes) is)
    ∙ append_assoc (before ++ codes "[\"") strings (codes "\"]")
    ∙ append_assoc before (codes "[\"") (strings ++ codes "\"]")
    ∙ ap (λ (text : List ℕ). before ++ (91 ∷ 34 ∷ text)) (sym (append_assoc strings (34 ∷ []) (93 ∷ [])))
    ∙ ap (λ (text : List ℕ). before ++ (91 ∷ (text ++ 93 ∷ []))) (words-json field fields)

-- ---- the whole

json-form : (number all : List ℕ)
    → number ++ codes ",\"queries\":[" ++ all ++ codes "]}\n"
    ≡ number ++ codes ",\"queries\":" ++ (codes "[" ++ all ++ codes "]") ++ codes "}\n"
json-form number all =
    append_assoc (number ++ codes ",\"queries\":[") all (codes "]}\n")
    ∙ append_assoc number (codes ",\"queries\":[") (all ++ codes "]}\n")
    ∙ ap (λ (text : List ℕ). number ++ (codes ",\"queries\":[" ++ text)) (sym (append_assoc all (codes "]") (codes "}\n")))
    ∙ sym (append_assoc number (codes ",\"queries\":") ((codes "[" ++ all ++ codes "]") ++ codes "}\n"))
    ∙ sym (append_assoc (number ++ codes ",\"queries\":") (codes "[" ++ all ++ codes "]") (codes "}\n"))

pub json-written : (version : ℕ) (answers : List (List (List Field))) (number made first numbered opened values after : List ℕ)
    → number ≡ decimal version → made ≡ [] → first ≡ made ++ codes "{\"version\":" → numbered ≡ first ++ number
    → opened ≡ numbered ++ codes ",\"queries\":[" → values ≡ opened ++ join_with_byte 44 (map answer_json answers)
    → after ≡ values ++ codes "]}\n" → after ≡ json_text version answers
json-written version answers number made first numbered opened values after is none begins adds opens has closes =
    let all = join_with_byte 44 (map answer_json answers) in
    closes
    ∙ ap (λ (text : List ℕ). text ++ codes "]}\n")
    (has
    ∙ ap (λ (text : List ℕ). text ++ all)
    (opens
    ∙ ap (λ (text : List ℕ). text ++ codes ",\"queries\":[")
    (adds ∙ (λ j. (begins ∙ ap (λ (text : List ℕ). text ++ codes "{\"version\":") none) j ++ is j))))
    ∙ ap (λ (text : List ℕ). codes "{\"version\":" ++ text) (json-form (decimal version) all)
