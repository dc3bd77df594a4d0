mod LastBytes
mod PartsFound
