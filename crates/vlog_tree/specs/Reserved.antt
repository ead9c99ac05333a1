-- The reserved words (IEEE 1364-2005, annex B), by their first letter, and those of them that the grammar has.
use Rattle.std.specs.Prelude.{ℕ, Bool, not, ◌&&◌, ◌==◌, if◌then◌else◌, List, [], ◌∷◌, slice_index, codes}
use Rattle.std.specs.List.{list_any}
use Rattle.std.specs.Str.{bytes_eq}

-- the reserved words that begin with such a letter
unfoldable pub reserved_with : ℕ → List (List ℕ)
reserved_with letter =
    if letter == 97 then codes "always" ∷ codes "and" ∷ codes "assign" ∷ codes "automatic" ∷ []
    else (if letter == 98 then codes "begin" ∷ codes "buf" ∷ codes "bufif0" ∷ codes "bufif1" ∷ []
    else (if letter == 99 then codes "case" ∷ codes "casex" ∷ codes "casez" ∷ codes "cell" ∷ codes "cmos" ∷ codes "config" ∷ []
    else (if letter == 100 then codes "deassign" ∷ codes "default" ∷ codes "defparam" ∷ codes "design" ∷ codes "disable" ∷ []
    else (if letter == 101 then codes "edge" ∷ codes "else" ∷ codes "end" ∷ codes "endcase" ∷ codes "endconfig" ∷ codes "endfunction" ∷ codes "endgenerate" ∷ codes "endmodule" ∷ codes "endprimitive" ∷ codes "endspecify" ∷ codes "endtable" ∷ codes "endtask" ∷ codes "event" ∷ []
    else (if letter == 102 then codes "for" ∷ codes "force" ∷ codes "forever" ∷ codes "fork" ∷ codes "function" ∷ []
    else (if letter == 103 then codes "generate" ∷ codes "genvar" ∷ []
    else (if letter == 104 then codes "highz0" ∷ codes "highz1" ∷ []
    else (if letter == 105 then codes "if" ∷ codes "ifnone" ∷ codes "incdir" ∷ codes "include" ∷ codes "initial" ∷ codes "inout" ∷ codes "input" ∷ codes "instance" ∷ codes "integer" ∷ []
    else (if letter == 106 then codes "join" ∷ []
    else (if letter == 108 then codes "large" ∷ codes "liblist" ∷ codes "library" ∷ codes "localparam" ∷ []
    else (if letter == 109 then codes "macromodule" ∷ codes "medium" ∷ codes "module" ∷ []
    else (if letter == 110 then codes "nand" ∷ codes "negedge" ∷ codes "nmos" ∷ codes "nor" ∷ codes "noshowcancelled" ∷ codes "not" ∷ codes "notif0" ∷ codes "notif1" ∷ []
    else (if letter == 111 then codes "or" ∷ codes "output" ∷ []
    else (if letter == 112 then codes "parameter" ∷ codes "pmos" ∷ codes "posedge" ∷ codes "primitive" ∷ codes "pull0" ∷ codes "pull1" ∷ codes "pulldown" ∷ codes "pullup" ∷ codes "pulsestyle_ondetect" ∷ codes "pulsestyle_onevent" ∷ []
    else (if letter == 114 then codes "rcmos" ∷ codes "real" ∷ codes "realtime" ∷ codes "reg" ∷ codes "release" ∷ codes "repeat" ∷ codes "rnmos" ∷ codes "rpmos" ∷ codes "rtran" ∷ codes "rtranif0" ∷ codes "rtranif1" ∷ []
    else (if letter == 115 then codes "scalared" ∷ codes "showcancelled" ∷ codes "signed" ∷ codes "small" ∷ codes "specify" ∷ codes "specparam" ∷ codes "strong0" ∷ codes "strong1" ∷ codes "supply0" ∷ codes "supply1" ∷ []
    else (if letter == 116 then codes "table" ∷ codes "task" ∷ codes "time" ∷ codes "tran" ∷ codes "tranif0" ∷ codes "tranif1" ∷ codes "tri" ∷ codes "tri0" ∷ codes "tri1" ∷ codes "triand" ∷ codes "trior" ∷ codes "trireg" ∷ []
    else (if letter == 117 then codes "unsigned" ∷ codes "use" ∷ codes "uwire" ∷ []
    else (if letter == 118 then codes "vectored" ∷ []
    else (if letter == 119 then codes "wait" ∷ codes "wand" ∷ codes "weak0" ∷ codes "weak1" ∷ codes "while" ∷ codes "wire" ∷ codes "wor" ∷ []
    else (if letter == 120 then codes "xnor" ∷ codes "xor" ∷ []
    else [])))))))))))))))))))))

-- one of the reserved words
unfoldable pub is_reserved : List ℕ → Bool
is_reserved word = list_any (bytes_eq word) (reserved_with (slice_index word 0))

-- the reserved words that a production names
abbrev pub words_of_grammar : List (List ℕ)
words_of_grammar =
    codes "always" ∷ codes "and" ∷ codes "assign" ∷ codes "begin" ∷ codes "buf" ∷ codes "case" ∷ codes "casez" ∷ codes "default" ∷ codes "else" ∷
    codes "end" ∷ codes "endcase" ∷ codes "endgenerate" ∷ codes "endmodule" ∷ codes "for" ∷ codes "generate" ∷ codes "genvar" ∷ codes "if" ∷ codes "input" ∷
    codes "integer" ∷ codes "localparam" ∷ codes "module" ∷ codes "nand" ∷ codes "negedge" ∷ codes "nor" ∷ codes "not" ∷ codes "or" ∷ codes "output" ∷
    codes "parameter" ∷ codes "posedge" ∷ codes "reg" ∷ codes "signed" ∷ codes "wire" ∷ codes "xnor" ∷ codes "xor" ∷
    []

-- a reserved word that no production names
unfoldable pub is_foreign_word : List ℕ → Bool
is_foreign_word word = is_reserved word && not (list_any (bytes_eq word) words_of_grammar)
