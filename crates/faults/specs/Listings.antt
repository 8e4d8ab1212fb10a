-- By what a caller knows a fault: its number, the layer that refused, and a place.
use Rattle.std.specs.Prelude.{ℕ, if◌then◌else◌, ◌&&◌, List, ◌++◌, codes, decimal, nat_le, Option, Result}
use Rattle.std.specs.Option.{option_map}
use Rattle.std.specs.Result.{result_err}
use Rattle.faults.specs.declared.Layer.{Layer}
use Rattle.faults.specs.declared.Layer.TheVariants.{Register, Source, Account}
use Rattle.faults.specs.declared.Listing.{Listing}

-- The layer of a fault by its number: registers have 1 to 5, load shape sources 6 to 11, the account all others.
abbrev pub layer_of : ℕ → Layer
layer_of number =
    if nat_le 1 number && nat_le number 5 then Register
    else if nat_le 6 number && nat_le number 11 then Source
    else Account

-- The listing of a fault, from its number and its place.
abbrev pub listing : ℕ → ℕ → Listing
listing number place = record { number = number; layer = layer_of number; place = place }

-- The refusal in an answer, by how its fault is listed, or none.
abbrev pub refusal : {T F : Type 0} → (F → Listing) → Result T F → Option Listing
refusal listed answer = option_map listed (result_err answer)

-- The word for a layer.
abbrev pub layer_name : Layer → List ℕ
layer_name Register = codes "register"
layer_name Source = codes "source"
layer_name Account = codes "account"

-- The text of a listing, as `fault 5, layer register, place 1`.
abbrev pub listing_text : Listing → List ℕ
listing_text l =
    codes "fault " ++ (decimal l.number ++ (codes ", layer " ++ (layer_name l.layer ++ (codes ", place " ++ decimal l.place))))

-- The text of a fault: what is wrong, and then its listing.
abbrev pub fault_text : List ℕ → Listing → List ℕ
fault_text reason listing = reason ++ (codes " (" ++ (listing_text listing ++ codes ")"))
