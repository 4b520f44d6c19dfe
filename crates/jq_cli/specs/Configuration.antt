-- The configuration that a command line asks for (manual of jq 1.7, "Invoking jq").
use Rattle.std.specs.Char.{digit_value}
use Rattle.std.specs.List.{list_all}
use Rattle.std.specs.Prelude.{◌^◌, ◌&&◌, ℕ, List, [], Bool, Option, Some, None, codes, length, if◌then◌else◌, map, nat_lt, string_bytes, unwrap_or}
use Rattle.std.specs.Str.Parse.{digits_value, without_leading_plus}
use Rattle.clap.specs.Words.{Row, Text, all_of, count_of, first_of, one_of}
use Rattle.jq_cli.specs.Pieces.{Variable}
use Rattle.jq_cli.specs.declared.configuring.Config.{Config}
use Rattle.jq_syntax.specs.Chosen.{Chosen, chosen}

pub record Configuration : Type 0 where
  pub options : Chosen
  pub filter : Text
  pub files : List Text
  pub live : Bool
  pub follow : Bool
  pub explain : Bool

abbrev pub shown : Config → Configuration
shown c = record {
  options = chosen c.options;
  filter = string_bytes c.filter;
  files = map string_bytes c.files.items;
  live = c.live;
  follow = c.follow;
  explain = c.explain;
}

abbrev pub is_given : Text → List Row → Bool
is_given flag entries = nat_lt 0 (count_of flag entries)

-- digits of a number of 32 bits
abbrev pub are_digits : Text → Bool
are_digits ds = nat_lt 0 (length ds) && list_all (λ d. nat_lt (digit_value d) 10) ds && nat_lt (digits_value 10 ds) (2 ^ 32)

-- the number that a text is in decimal; else 10,000
abbrev pub number_in : Option Text → ℕ
number_in None = 10000
number_in (Some text) = let ds = without_leading_plus text in if are_digits ds then digits_value 10 ds else 10000

-- The number of `--depth`. (`clap` takes a number from 1 to 100,000, and makes the entry 10000 if the words have none.)
abbrev pub depth_of : List Row → ℕ
depth_of entries = number_in (one_of (codes "depth") entries)

-- what `clap`'s entries ask for, with these variables
abbrev pub configured : List Row → List Variable → Configuration
configured entries vars = record {
  options = record {
    null = is_given (codes "null-input") entries;
    slurp = is_given (codes "slurp") entries;
    exit = is_given (codes "exit-status") entries;
    style = record {
      compact = is_given (codes "compact-output") entries;
      raw = is_given (codes "raw-output") entries;
      join = is_given (codes "join-output") entries;
    };
    depth = depth_of entries;
    variables = vars;
  };
  filter = unwrap_or (first_of (codes "FILTER") entries) [];
  files = unwrap_or (all_of (codes "FILE") entries) [];
  live = is_given (codes "live") entries;
  follow = is_given (codes "follow") entries;
  explain = is_given (codes "explain") entries;
}
