-- Comments (NuSMV 2.6 User Manual, 2.1, Comments). They do not nest, and may hold any byte: both are own choices of
-- this project.
use Rattle.std.specs.Prelude.{ℕ, suc, ◌==◌, Bool, true, false, ◌&&◌, if◌then◌else◌, List, [], ◌∷◌, Option, None, Some}

-- "--" begins a comment ..
abbrev pub begins_line_comment : List ℕ → Bool
begins_line_comment (a ∷ b ∷ rest) = a == 45 && b == 45
begins_line_comment _ = false

-- .. to the end of the line.
abbrev pub in_line : ℕ → Bool
in_line b = if b == 10 then false else true

-- "/--" begins a comment ..
abbrev pub begins_comment : List ℕ → Bool
begins_comment (a ∷ b ∷ c ∷ rest) = a == 47 && b == 45 && c == 45
begins_comment _ = false

-- .. up to "--/", which shares no byte with it.
abbrev pub ends_here : List ℕ → Bool
ends_here (a ∷ b ∷ c ∷ rest) = a == 45 && b == 45 && c == 47
ends_here _ = false

abbrev pub one_more : Option ℕ → Option ℕ
one_more None = None
one_more (Some n) = Some (suc n)

-- how many bytes there are up to and with the first "--/"
abbrev pub end_of : List ℕ → Option ℕ
end_of [] = None
end_of (b ∷ rest) = if ends_here (b ∷ rest) then Some 3 else one_more (end_of rest)
