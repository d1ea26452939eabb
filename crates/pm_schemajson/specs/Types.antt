-- The types that a schema's JSON lists, without where they lie in memory.
use Rattle.std.specs.Prelude.{ℕ, List, Bool, Option}
use Rattle.pm_value.specs.Plain.{Plain}
use Rattle.pm_value.specs.declared.kinds.Kinds.{Kinds}

-- an attribute: its name, its default if it has one, and the kinds of values that it names, if it does
pub record Attribute : Type 0 where
  pub name : List ℕ
  pub default : Option Plain
  pub validate : Option Kinds

-- a node type, with its content as a text or as an expression
pub record NodeType (Content : Type 0) : Type 0 where
  pub name : List ℕ
  pub content : Content
  pub groups : List (List ℕ)
  pub marks : Option (List ℕ)
  pub inline : Bool
  pub atom : Bool
  pub attrs : List Attribute

pub record MarkType : Type 0 where
  pub name : List ℕ
  pub attrs : List Attribute
  pub inclusive : Bool
  pub excludes : Option (List ℕ)
  pub groups : List (List ℕ)

pub record Types (Content : Type 0) : Type 0 where
  pub nodes : List (NodeType Content)
  pub marks : List MarkType
  -- the name of the top node's type
  pub top : List ℕ
  pub version : ℕ
