-- Elements of a picture as text: rectangles and labels.
use Rattle.std.specs.Prelude.{ℕ, ◌==◌, ◌&&◌, nat_le, List, [], ◌∷◌, ◌++◌, codes, if◌then◌else◌}
use Rattle.std.specs.List.{flat_map}
use Rattle.std.specs.Fmt.{decimal}
use Rattle.dl_picture.specs.declared.element.Label.{Label}
use Rattle.dl_picture.specs.declared.element.Rect.{Rect}

-- A letter of a text: the three that end one stand by their names; what is no visible letter is a question mark.
unfoldable pub letter : ℕ → List ℕ
letter b =
    if b == 60 then codes "&lt;"
    else if b == 62 then codes "&gt;"
    else if b == 38 then codes "&amp;"
    else if nat_le 32 b && nat_le b 126 then b ∷ []
    else codes "?"

unfoldable pub escaped : List ℕ → List ℕ
escaped letters = flat_map letter letters

-- a rectangle of a colour
unfoldable pub rect : Rect → List ℕ → List ℕ
rect area colour =
    codes "<rect x='" ++ decimal area.x ++ codes "' y='" ++ decimal area.y ++ codes "' width='" ++ decimal area.width ++ codes "' height='" ++ decimal area.height
    ++ codes "' fill='" ++ colour ++ codes "'/>\n"

-- a label with a style
unfoldable pub label : Label → List ℕ → List ℕ → List ℕ
label place style letters =
    codes "<text x='" ++ decimal place.x ++ codes "' y='" ++ decimal place.y ++ codes "'" ++ style ++ codes ">" ++ escaped letters ++ codes "</text>\n"
