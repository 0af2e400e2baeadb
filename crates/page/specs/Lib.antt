pub mod SwissMen
