-- The words that an argument gives, itself or by a file.
use Rattle.std.specs.Prelude.{ℕ, nat_lt, if◌then◌else◌, List, [], ◌∷◌, length, string_bytes}
use Rattle.std.specs.List.{filter}
use Rattle.std.specs.Str.Lines.{lines}
use Rattle.program_base.specs.declared.word_files.IdWord.{IdWord}

-- the lines of a text that are not empty
abbrev pub full_lines : List ℕ → List (List ℕ)
full_lines text = filter (λ line. nat_lt 0 (length line)) (lines text)

-- the word itself, or the lines of its file that are not empty
abbrev pub words_of : IdWord → List (List ℕ)
words_of word = if word.is_list then full_lines (string_bytes word.text) else (string_bytes word.text ∷ [])
